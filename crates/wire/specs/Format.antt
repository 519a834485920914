-- The language of formats. A format says which values can be written, their bytes, and what reading the front of a list finds, with the
-- laws that tie the three. `E` is the type of faults, and `ends` is the fault of bytes that end inside a field.
use Prim.Native.Nat.{ℕ, zero, suc, zero-le, ◌+◌, ◌≤◌}
use Rattle.std.specs.Prelude.{◌≡◌, ◌⊎◌, Bool, true, false, cond, leb, length, take, drop}
use Rattle.std.proofs.Math.Path.{refl}
use Rattle.std.proofs.Common.{ap, sym, subst₂, ◌∙◌, inl, inr, arith, length-append, take-append-drop, drop-drop, length-take-le, le-leb, leb-true}
use mathlib.Core.List.{List, [], ◌∷◌, ◌++◌, append_assoc}
use Rattle.std.proofs.Math.Seq.{drop-append_seam, take-append_seam}
use Rattle.std.proofs.lemmas.List.{drop-append-le}
use Rattle.wire.specs.Choice.{or-so}
use Rattle.wire.specs.Bytes.{Bytes, bytes-nil, bytes-append, bytes_drop, bytes_take}
use Rattle.wire.specs.Read.{Read, done, refused, bind, map_read, shift, reach, not_done, same-refusal, bind_done, map-done, map-refused, shift-done, shift-refused, cond-done, reach-map, reach-shift, reach-bind, reach-cond}

-- the value's bytes stand at the front of s, n of them
pub record Parsed {A : Type 0} (Ok : A → Type 0) (encode : A → List ℕ) (s : List ℕ) (a : A) (n : ℕ) : Type 0 where
  pub ok : Ok a
  pub front : s ≡ encode a ++ drop n s
  pub ends : n ≡ length (encode a)

pub record Format (E : Type 0) (ends : E) (A : Type 0) : Type 1 where
  -- the values that can be written, and their bytes
  pub Ok : A → Type 0
  pub encode : A → List ℕ
  pub read : List ℕ → Read E A
  pub bytes : (a : A) → Ok a → Bytes (encode a)
  -- an end or a place lies in the list
  pub inside : (s : List ℕ) → reach (read s) ≤ length s
  -- what was written is read back, whatever follows
  pub forward : (a : A) → Ok a → (t : List ℕ) → read (encode a ++ t) ≡ done a (length (encode a))
  -- what was read is the bytes in front
  pub backward : (s : List ℕ) (a : A) (n : ℕ) → Bytes s → read s ≡ done a n → Parsed Ok encode s a n
  -- a refusal stays, whatever follows, unless it is for want of bytes
  pub stable_refusal : (s t : List ℕ) (e : E) (p : ℕ) → Bytes s → read s ≡ refused e p → (e ≡ ends) ⊎ (read (s ++ t) ≡ refused e p)

pub moved : {A : Type 0} {Ok : A → Type 0} {encode : A → List ℕ} {s : List ℕ} {a b : A} {n m : ℕ} → a ≡ b → n ≡ m → Parsed Ok encode s a n → Parsed Ok encode s b m
moved {A} {Ok} {encode} {s} e f k = subst₂ (λ (x : A) (i : ℕ). Parsed Ok encode s x i) e f k

-- what was read is read so, whatever follows
pub local : {E : Type 0} {ends : E} {A : Type 0} (f : Format E ends A) (s t : List ℕ) (a : A) (n : ℕ) → Bytes s → f.read s ≡ done a n → f.read (s ++ t) ≡ done a n
local f s t a n b h =
    let k = f.backward s a n b h in
    let e : s ++ t ≡ f.encode a ++ (drop n s ++ t) = ap (λ (l : List ℕ). l ++ t) k.front ∙ append_assoc (f.encode a) (drop n s) t in
    ap f.read e ∙ f.forward a k.ok (drop n s ++ t) ∙ ap (done a) (sym k.ends)

-- what was read ends in the list
pub ends-in : {E : Type 0} {ends : E} {A : Type 0} (f : Format E ends A) {s : List ℕ} {a : A} {n : ℕ} → f.read s ≡ done a n → n ≤ length s
ends-in f {s} h = rw h at (f.inside s)

-- ---- n bytes
pub want-of-bytes : {E A : Type 0} {e : E} {p : ℕ} (ends : E) (c : Bool) (a : A) (n : ℕ) → cond c (done a n) (refused ends 0) ≡ refused e p → e ≡ ends
want-of-bytes ends true a n h = not_done (sym h)
want-of-bytes ends false a n h = cc

unfoldable pub run : {E : Type 0} {ends : E} → ℕ → Format E ends (List ℕ)
run {E} {ends} n = record {
  Ok = λ l. (length l ≡ n) × Bytes l;
  encode = λ l. l;
  read = λ s. cond (leb n (length s)) (done (take n s) n) (refused ends 0);
  bytes = λ l h. h.1;
  inside = λ s. reach-cond (leb n (length s)) n (length s) (take n s) ends (λ t. leb-true _ _ t);
  forward = λ l h t.
      let fits : n ≤ length (l ++ t) = rw (length-append, h.0) (omega arith) in
      rw (le-leb _ _ fits, ← h.0, take-append_seam);
  backward = λ s l m b h.
      let x = cond-done (leb n (length s)) (done (take n s) n) ends 0 l m h in
      let same : take n s ≡ l = cc x.1 in
      let end : n ≡ m = cc x.1 in
      let size : length (take n s) ≡ n = length-take-le n s (leb-true _ _ x.0) in
      moved same end record { ok = (size, bytes_take n s b); front = sym (take-append-drop n s); ends = sym size };
  stable_refusal = λ s t e p b h. inl (want-of-bytes ends (leb n (length s)) (take n s) n h);
}

-- ---- no bytes, with a value that stands for them
unfoldable pub nothing : {E : Type 0} {ends : E} {A : Type 0} → A → Format E ends A
nothing {A = A} a₀ = record {
  Ok = λ a. a ≡ a₀;
  encode = λ a. [];
  read = λ s. done a₀ 0;
  bytes = λ a h. bytes-nil;
  inside = λ s. zero-le;
  forward = λ a h t. ap (λ (x : A). done x 0) (sym h);
  backward = λ s a n b e. record {
    ok = (cc);
    front = let z : 0 ≡ n = cc in rw (← z);
    ends = (cc);
  };
  stable_refusal = λ s t e p b h. not_done (sym h);
}

-- ---- a value that passes a test; any other is refused at its own place
abbrev pub tested : {E A : Type 0} → (A → Bool) → E → A → ℕ → Read E A
tested test e a n = cond (test a) (done a n) (refused e 0)

module _ {E : Type 0} {ends : E} {A : Type 0} (test : A → Bool) (e : E) (f : Format E ends A) where
  pub refine-backward : (s : List ℕ) (a : A) (n : ℕ) → Bytes s → bind (f.read s) (tested test e) ≡ done a n → Parsed (λ a. f.Ok a × (test a ≡ true)) f.encode s a n
  refine-backward s a n b h =
      let x = bind_done (f.read s) (tested test e) a n h in
      let y = cond-done (test x.0) (done x.0 x.1) e 0 a n x.3 in
      let same : x.0 ≡ a = cc y.1 in
      let k = f.backward s a n b (x.2 ∙ y.1) in
      record { ok = (k.ok, ap test (sym same) ∙ y.0); front = k.front; ends = k.ends }

  refine-by : (s t : List ℕ) (k : E) (p : ℕ) → Bytes s → (r : Read E A) → f.read s ≡ r → bind r (tested test e) ≡ refused k p
      → (k ≡ ends) ⊎ (bind (f.read (s ++ t)) (tested test e) ≡ refused k p)
  refine-by s t k p b (done a n) h g = inr (rw (local f s t a n b h) g)
  refine-by s t k p b (refused k₁ p₁) h g = or-so (λ z. rw z) (f.stable_refusal s t k p b (h ∙ g))

  pub refine-stable : (s t : List ℕ) (k : E) (p : ℕ) → Bytes s → bind (f.read s) (tested test e) ≡ refused k p
      → (k ≡ ends) ⊎ (bind (f.read (s ++ t)) (tested test e) ≡ refused k p)
  refine-stable s t k p b h = refine-by s t k p b (f.read s) refl h

unfoldable pub refine : {E : Type 0} {ends : E} {A : Type 0} → (A → Bool) → E → Format E ends A → Format E ends A
refine test e f = record {
  Ok = λ a. f.Ok a × (test a ≡ true);
  encode = f.encode;
  read = λ s. bind (f.read s) (tested test e);
  bytes = λ a h. f.bytes a h.0;
  inside = λ s. reach-bind (f.read s) (tested test e) (length s) (f.inside s) (λ a n h. reach-cond (test a) n (length s) a e (λ t. h));
  forward = λ a h t. rw (f.forward a h.0 t, h.1);
  backward = refine-backward test e f;
  stable_refusal = refine-stable test e f;
}

-- ---- one format after another, which may look at the value before it
infixr 20 ◌⨾◌
abbrev pub pair : {A B : Type 0} → A → B → A × B
pair a b = (a, b)

-- the second of two, read behind the first
abbrev pub next : {E : Type 0} {ends : E} {A B : Type 0} → (A → Format E ends B) → List ℕ → A → ℕ → Read E (A × B)
next g s a n = shift n (pair a) ((g a).read (drop n s))

-- two values that were taken one after the other, as one
pub joined : {A B C : Type 0} {OkA : A → Type 0} {enc_a : A → List ℕ} {OkB : B → Type 0} {enc_b : B → List ℕ} {OkC : C → Type 0} {enc_c : C → List ℕ}
    {s : List ℕ} {a : A} {n : ℕ} {b : B} {m : ℕ} {c : C} → Parsed OkA enc_a s a n → Parsed OkB enc_b (drop n s) b m
    → OkC c → enc_c c ≡ enc_a a ++ enc_b b → Parsed OkC enc_c s c (n + m)
joined {enc_a = enc_a} {enc_b = enc_b} {s = s} {a = a} {n = n} {b = b} {m = m} k l h e = record {
  ok = h;
  front = rw e (k.front ∙ ap (λ (y : List ℕ). enc_a a ++ y) (l.front ∙ ap (λ (y : List ℕ). enc_b b ++ y) (drop-drop m n s)) ∙ sym (append_assoc (enc_a a) (enc_b b) (drop (n + m) s)));
  ends = rw (e, length-append, ← k.ends, ← l.ends);
}

-- a refusal of the second of two stays
pub shift-stable : {E : Type 0} {ends : E} {A B C : Type 0} (f : Format E ends A) (r : List ℕ → Read E B) (to : B → C) (s t : List ℕ) (a : A) (n : ℕ) (e : E) (p : ℕ)
    → f.read s ≡ done a n
    → ((q : ℕ) → r (drop n s) ≡ refused e q → (e ≡ ends) ⊎ (r (drop n s ++ t) ≡ refused e q))
    → shift n to (r (drop n s)) ≡ refused e p → (e ≡ ends) ⊎ (shift n to (r (drop n (s ++ t))) ≡ refused e p)
shift-stable f r to s t a n e p h k g =
    let x = shift-refused n to (r (drop n s)) e p g in
    let seam : drop n (s ++ t) ≡ drop n s ++ t = drop-append-le n s t (ends-in f h) in
    or-so (λ z. ap (shift n to) (ap r seam ∙ z) ∙ ap (refused e) x.2) (k x.0 x.1)

module _ {E : Type 0} {ends : E} {A B : Type 0} (f : Format E ends A) (g : A → Format E ends B) where
  pub then-inside : (s : List ℕ) → reach (bind (f.read s) (next g s)) ≤ length s
  then-inside s = reach-bind (f.read s) (next g s) (length s) (f.inside s) (λ a n h. reach-shift n s (pair a) ((g a).read (drop n s)) h ((g a).inside (drop n s)))

  pub then-backward : (s : List ℕ) (x : A × B) (n : ℕ) → Bytes s → bind (f.read s) (next g s) ≡ done x n
      → Parsed (λ x. f.Ok x.0 × (g x.0).Ok x.1) (λ x. f.encode x.0 ++ (g x.0).encode x.1) s x n
  then-backward s x n b h =
      let y = bind_done (f.read s) (next g s) x n h in
      let z = shift-done y.1 (pair y.0) ((g y.0).read (drop y.1 s)) x n y.3 in
      let k = f.backward s y.0 y.1 b y.2 in
      let l = (g y.0).backward (drop y.1 s) z.0 z.1 (bytes_drop y.1 s b) z.2 in
      moved z.3 z.4 (joined k l (k.ok, l.ok) refl)

  then_by : (s t : List ℕ) (e : E) (p : ℕ) → Bytes s → (r : Read E A) → f.read s ≡ r → bind r (next g s) ≡ refused e p
      → (e ≡ ends) ⊎ (bind (f.read (s ++ t)) (next g (s ++ t)) ≡ refused e p)
  then_by s t e p b (done a n) h k =
      or-so (λ z. rw (local f s t a n b h) z)
      (shift-stable f (g a).read (pair a) s t a n e p h (λ q. (g a).stable_refusal (drop n s) t e q (bytes_drop n s b)) k)
  then_by s t e p b (refused e₁ p₁) h k = or-so (λ z. rw z) (f.stable_refusal s t e p b (h ∙ same-refusal k))

  pub then-stable : (s t : List ℕ) (e : E) (p : ℕ) → Bytes s → bind (f.read s) (next g s) ≡ refused e p
      → (e ≡ ends) ⊎ (bind (f.read (s ++ t)) (next g (s ++ t)) ≡ refused e p)
  then-stable s t e p b h = then_by s t e p b (f.read s) refl h

unfoldable pub ◌⨾◌ : {E : Type 0} {ends : E} {A B : Type 0} → Format E ends A → (A → Format E ends B) → Format E ends (A × B)
f ⨾ g = record {
  Ok = λ x. f.Ok x.0 × (g x.0).Ok x.1;
  encode = λ x. f.encode x.0 ++ (g x.0).encode x.1;
  read = λ s. bind (f.read s) (next g s);
  bytes = λ x h. bytes-append (f.encode x.0) ((g x.0).encode x.1) (f.bytes x.0 h.0) ((g x.0).bytes x.1 h.1);
  inside = then-inside f g;
  forward = λ x h t.
      rw (append_assoc, f.forward x.0 h.0 ((g x.0).encode x.1 ++ t), drop-append_seam, (g x.0).forward x.1 h.1 t, length-append);
  backward = then-backward f g;
  stable_refusal = then-stable f g;
}

-- ---- the same bytes under another type: `from` gives the value to write, `to` what was read
module _ {E : Type 0} {ends : E} {A B : Type 0} (Ok : B → Type 0) (to : A → B) (from : B → A) (f : Format E ends A) where
  pub iso-backward : ((a : A) → f.Ok a → Ok (to a) × (from (to a) ≡ a)) → (s : List ℕ) (b : B) (n : ℕ) → Bytes s → map_read to (f.read s) ≡ done b n
      → Parsed Ok (λ b. f.encode (from b)) s b n
  iso-backward back s b n w h =
      let x = map-done to (f.read s) b n h in
      let k = f.backward s x.0 n w x.1 in
      let z = back x.0 k.ok in
      moved x.2 refl record { ok = z.0; front = rw z.1 k.front; ends = rw z.1 k.ends }

  pub iso-stable : (s t : List ℕ) (e : E) (p : ℕ) → Bytes s → map_read to (f.read s) ≡ refused e p → (e ≡ ends) ⊎ (map_read to (f.read (s ++ t)) ≡ refused e p)
  iso-stable s t e p b h = or-so (λ z. rw z) (f.stable_refusal s t e p b (map-refused to (f.read s) e p h))

unfoldable pub iso : {E : Type 0} {ends : E} {A B : Type 0} (Ok : B → Type 0) (to : A → B) (from : B → A) (f : Format E ends A)
    → ((b : B) → Ok b → f.Ok (from b) × (to (from b) ≡ b)) → ((a : A) → f.Ok a → Ok (to a) × (from (to a) ≡ a)) → Format E ends B
iso Ok to from f there back = record {
  Ok = Ok;
  encode = λ b. f.encode (from b);
  read = λ s. map_read to (f.read s);
  bytes = λ b h. f.bytes (from b) (there b h).0;
  inside = λ s. rw reach-map (f.inside s);
  forward = λ b h t. rw (f.forward (from b) (there b h).0 t, (there b h).1);
  backward = iso-backward Ok to from f back;
  stable_refusal = iso-stable Ok to from f;
}

-- ---- k items, each told those before it, the last one first
abbrev pub OkItems : {E : Type 0} {ends : E} {A : Type 0} → (List A → Format E ends A) → ℕ → List A → List A → Type 0
OkItems item zero seen [] = Unit {0}
OkItems item zero seen (a ∷ l) = ⊥
OkItems item (suc k) seen [] = ⊥
OkItems item (suc k) seen (a ∷ l) = (item seen).Ok a × OkItems item k (a ∷ seen) l

abbrev pub encode_items : {E : Type 0} {ends : E} {A : Type 0} → (List A → Format E ends A) → List A → List A → List ℕ
encode_items item seen [] = []
encode_items item seen (a ∷ l) = (item seen).encode a ++ encode_items item (a ∷ seen) l

unfoldable pub read_items : {E : Type 0} {ends : E} {A : Type 0} → (List A → Format E ends A) → ℕ → List A → List ℕ → Read E (List A)
read_items item zero seen s = done [] 0
read_items item (suc k) seen s = bind ((item seen).read s) λ a n. shift n (λ l. a ∷ l) (read_items item k (a ∷ seen) (drop n s))

module _ {E : Type 0} {ends : E} {A : Type 0} (item : List A → Format E ends A) where
  -- the items behind the first
  rest : ℕ → List A → List ℕ → A → ℕ → Read E (List A)
  rest k seen s a n = shift n (λ l. a ∷ l) (read_items item k (a ∷ seen) (drop n s))

  pub items-bytes : (k : ℕ) (seen l : List A) → OkItems item k seen l → Bytes (encode_items item seen l)
  items-bytes zero seen [] h = bytes-nil
  items-bytes zero seen (a ∷ l) h = absurd h
  items-bytes (suc k) seen [] h = absurd h
  items-bytes (suc k) seen (a ∷ l) h = bytes-append ((item seen).encode a) (encode_items item (a ∷ seen) l) ((item seen).bytes a h.0) (items-bytes k (a ∷ seen) l h.1)

  pub items-length : (k : ℕ) (seen l : List A) → OkItems item k seen l → length l ≡ k
  items-length zero seen [] h = refl
  items-length zero seen (a ∷ l) h = absurd h
  items-length (suc k) seen [] h = absurd h
  items-length (suc k) seen (a ∷ l) h = ap suc (items-length k (a ∷ seen) l h.1)

  pub items-inside : (k : ℕ) (seen : List A) (s : List ℕ) → reach (read_items item k seen s) ≤ length s
  unfolding read_items rest
  items-inside zero seen s = zero-le
  items-inside (suc k) seen s =
      reach-bind ((item seen).read s) (rest k seen s) (length s) ((item seen).inside s)
      (λ a n h. reach-shift n s (λ l. a ∷ l) (read_items item k (a ∷ seen) (drop n s)) h (items-inside k (a ∷ seen) (drop n s)))

  pub items-forward : (k : ℕ) (seen l : List A) → OkItems item k seen l → (t : List ℕ)
      → read_items item k seen (encode_items item seen l ++ t) ≡ done l (length (encode_items item seen l))
  unfolding read_items
  items-forward zero seen [] h t = refl
  items-forward zero seen (a ∷ l) h t = absurd h
  items-forward (suc k) seen [] h t = absurd h
  items-forward (suc k) seen (a ∷ l) h t =
      rw (append_assoc, (item seen).forward a h.0 (encode_items item (a ∷ seen) l ++ t), drop-append_seam, items-forward k (a ∷ seen) l h.1 t, length-append)

  pub items-backward : (k : ℕ) (seen : List A) (s : List ℕ) (l : List A) (n : ℕ) → Bytes s → read_items item k seen s ≡ done l n
      → Parsed (OkItems item k seen) (encode_items item seen) s l n
  unfolding read_items rest
  items-backward zero seen s l n b h =
      let e : [] ≡ l = cc in
      let f : 0 ≡ n = cc in
      moved e f record { ok = tt; front = refl; ends = refl }
  items-backward (suc k) seen s l n b h =
      let y = bind_done ((item seen).read s) (rest k seen s) l n h in
      let z = shift-done y.1 (λ l. y.0 ∷ l) (read_items item k (y.0 ∷ seen) (drop y.1 s)) l n y.3 in
      let p = (item seen).backward s y.0 y.1 b y.2 in
      let q = items-backward k (y.0 ∷ seen) (drop y.1 s) z.0 z.1 (bytes_drop y.1 s b) z.2 in
      moved z.3 z.4 (joined p q (p.ok, q.ok) refl)

  pub items-stable : (k : ℕ) (seen : List A) (s t : List ℕ) (e : E) (p : ℕ) → Bytes s → read_items item k seen s ≡ refused e p
      → (e ≡ ends) ⊎ (read_items item k seen (s ++ t) ≡ refused e p)
  unfolding read_items rest
  items-stable zero seen s t e p b h = not_done (sym h)
  items-stable (suc k) seen s t e p b h = go ((item seen).read s) refl h (λ a n. items-stable k (a ∷ seen) (drop n s) t e)
    where
      go : (r : Read E A) → (item seen).read s ≡ r → bind r (rest k seen s) ≡ refused e p
          → ((a : A) (n q : ℕ) → Bytes (drop n s) → read_items item k (a ∷ seen) (drop n s) ≡ refused e q → (e ≡ ends) ⊎ (read_items item k (a ∷ seen) (drop n s ++ t) ≡ refused e q))
          → (e ≡ ends) ⊎ (bind ((item seen).read (s ++ t)) (rest k seen (s ++ t)) ≡ refused e p)
      go (done a n) i g ih =
          or-so (λ z. rw (local (item seen) s t a n b i) z)
          (shift-stable (item seen) (read_items item k (a ∷ seen)) (λ l. a ∷ l) s t a n e p i (λ q. ih a n q (bytes_drop n s b)) g)
      go (refused e₁ p₁) i g ih = or-so (λ z. rw z) ((item seen).stable_refusal s t e p b (i ∙ same-refusal g))

unfoldable pub items : {E : Type 0} {ends : E} {A : Type 0} → (List A → Format E ends A) → ℕ → Format E ends (List A)
items item k = record {
  Ok = OkItems item k [];
  encode = encode_items item [];
  read = read_items item k [];
  bytes = items-bytes item k [];
  inside = items-inside item k [];
  forward = items-forward item k [];
  backward = items-backward item k [];
  stable_refusal = items-stable item k [];
}

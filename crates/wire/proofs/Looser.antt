-- A format with tests, and the same without: the looser one takes all that the stricter one takes, and where the stricter one alone refuses
-- it is with the fault of a test that was dropped. Where none of these is for want of bytes, what the stricter one says of bytes that the looser
-- one takes stays, whatever follows.
use Prim.Native.Nat.{ℕ, zero, suc, ◌+◌}
use mathlib.Core.Path.{◌≡◌, refl, ap, sym, subst, ◌∙◌}
use mathlib.Core.Logic.{◌⊎◌, inl, inr}
use mathlib.Core.List.{List, [], ◌∷◌, ◌++◌, append-nil}
use mathlib.Core.Bool.{Bool, true, false, cond}
use lib.ListN.{length, drop}
use lib.Seq.{drop-append_seam}
use Rattle.wire.specs.Bytes.{Bytes}
use Rattle.wire.specs.Choice.{or-so}
use Rattle.wire.specs.Read.{Read, done, refused, bind, map_read, shift, not_done, same-refusal, bind_done, map-done, map-refused, shift-done, shift-refused, cond-done}
use Rattle.wire.specs.Format.{Format, tested, refine, ◌⨾◌, next, pair, iso, items, read_items, encode_items, local}
use Rattle.wire.specs.Formats.{number, listed}
use Rattle.wire.proofs.EveryFormat.{every-format}

pub record Looser {E : Type 0} {ends : E} {A : Type 0} (Dropped : E → Type 0) (strict loose : Format E ends A) : Type 0 where
  pub same : (a : A) → strict.encode a ≡ loose.encode a
  pub takes : (s : List ℕ) (a : A) (n : ℕ) → strict.read s ≡ done a n → loose.read s ≡ done a n
  pub refuses : (s : List ℕ) (e : E) (p : ℕ) → strict.read s ≡ refused e p → (loose.read s ≡ refused e p) ⊎ Dropped e

-- ---- of each way to make a format
pub looser-self : {E : Type 0} {ends : E} {A : Type 0} {Dropped : E → Type 0} (f : Format E ends A) → Looser Dropped f f
looser-self f = record { same = λ a. refl; takes = λ s a n h. h; refuses = λ s e p h. inl h }

-- a test is dropped
module _ {E : Type 0} {ends : E} {A : Type 0} (test : A → Bool) (e : E) (f : Format E ends A) where
  refine-refused : (s : List ℕ) (k : E) (p : ℕ) (r : Read E A) → f.read s ≡ r → bind r (tested test e) ≡ refused k p → (f.read s ≡ refused k p) ⊎ (e ≡ k)
  refine-refused s k p (done a n) h g = go (test a) g
    where
      go : (b : Bool) → cond b (done a n) (refused e 0) ≡ refused k p → (f.read s ≡ refused k p) ⊎ (e ≡ k)
      go true z = not_done (sym z)
      go false z = inr (cc)
  refine-refused s k p (refused k₁ p₁) h g = inl (h ∙ same-refusal g)

  pub looser-refine : {Dropped : E → Type 0} → Dropped e → Looser Dropped (refine test e f) f
  unfolding refine
  looser-refine {Dropped} own = record {
    same = λ a. refl;
    takes = λ s a n h.
        let x = bind_done (f.read s) (tested test e) a n h in
        x.2 ∙ (cond-done (test x.0) (done x.0 x.1) e 0 a n x.3).1;
    refuses = λ s k p h. or-so (λ z. subst Dropped z own) (refine-refused s k p (f.read s) refl h);
  }

-- looser than what is looser
pub looser-trans : {E : Type 0} {ends : E} {A : Type 0} {Dropped : E → Type 0} {f g h : Format E ends A} → Looser Dropped f g → Looser Dropped g h → Looser Dropped f h
looser-trans {E} {ends} {A} {Dropped} {f} {g} {h} l m = record {
  same = λ a. l.same a ∙ m.same a;
  takes = λ s a n k. m.takes s a n (l.takes s a n k);
  refuses = λ s e p k. go s e p (l.refuses s e p k);
}
  where
    go : (s : List ℕ) (e : E) (p : ℕ) → (g.read s ≡ refused e p) ⊎ Dropped e → (h.read s ≡ refused e p) ⊎ Dropped e
    go s e p (inl z) = m.refuses s e p z
    go s e p (inr z) = inr z

-- one after another
module _ {E : Type 0} {ends : E} {A B : Type 0} {Dropped : E → Type 0} (f g : Format E ends A) (h k : A → Format E ends B) (l : Looser Dropped f g) (m : (a : A) → Looser Dropped (h a) (k a)) where
  then-takes : (s : List ℕ) (x : A × B) (n : ℕ) → bind (f.read s) (next h s) ≡ done x n → bind (g.read s) (next k s) ≡ done x n
  then-takes s x n z =
      let y = bind_done (f.read s) (next h s) x n z in
      let w = shift-done y.1 (pair y.0) ((h y.0).read (drop y.1 s)) x n y.3 in
      rw (l.takes s y.0 y.1 y.2, (m y.0).takes (drop y.1 s) w.0 w.1 w.2, w.3, w.4)

  then-refuses : (s : List ℕ) (e : E) (p : ℕ) (r : Read E A) → f.read s ≡ r → bind r (next h s) ≡ refused e p → (bind (g.read s) (next k s) ≡ refused e p) ⊎ Dropped e
  then-refuses s e p (done a n) z w =
      let x = shift-refused n (pair a) ((h a).read (drop n s)) e p w in
      go x.0 x.2 ((m a).refuses (drop n s) e x.0 x.1)
    where
      go : (q : ℕ) → n + q ≡ p → ((k a).read (drop n s) ≡ refused e q) ⊎ Dropped e → (bind (g.read s) (next k s) ≡ refused e p) ⊎ Dropped e
      go q i (inl j) = inl (rw (l.takes s a n z, j, i))
      go q i (inr j) = inr j
  then-refuses s e p (refused e₁ p₁) z w = go (l.refuses s e p (z ∙ same-refusal w))
    where
      go : (g.read s ≡ refused e p) ⊎ Dropped e → (bind (g.read s) (next k s) ≡ refused e p) ⊎ Dropped e
      go (inl j) = inl (rw j)
      go (inr j) = inr j

  pub looser-then : Looser Dropped (f ⨾ h) (g ⨾ k)
  unfolding ◌⨾◌
  looser-then = record {
    same = λ x. rw (l.same x.0, (m x.0).same x.1);
    takes = then-takes;
    refuses = λ s e p z. then-refuses s e p (f.read s) refl z;
  }

-- the same bytes under another type
module _ {E : Type 0} {ends : E} {A B : Type 0} {Dropped : E → Type 0} (OkF OkG : B → Type 0) (to : A → B) (from : B → A) (f g : Format E ends A) (l : Looser Dropped f g)
    (there_f : (b : B) → OkF b → f.Ok (from b) × (to (from b) ≡ b)) (back_f : (a : A) → f.Ok a → OkF (to a) × (from (to a) ≡ a))
    (there_g : (b : B) → OkG b → g.Ok (from b) × (to (from b) ≡ b)) (back_g : (a : A) → g.Ok a → OkG (to a) × (from (to a) ≡ a)) where
  iso-refuses : (s : List ℕ) (e : E) (p : ℕ) → (g.read s ≡ refused e p) ⊎ Dropped e → (map_read to (g.read s) ≡ refused e p) ⊎ Dropped e
  iso-refuses s e p (inl z) = inl (rw z)
  iso-refuses s e p (inr z) = inr z

  pub looser-iso : Looser Dropped (iso OkF to from f there_f back_f) (iso OkG to from g there_g back_g)
  unfolding iso
  looser-iso = record {
    same = λ b. l.same (from b);
    takes = λ s b n h. let x = map-done to (f.read s) b n h in rw (l.takes s x.0 n x.1, x.2);
    refuses = λ s e p h. iso-refuses s e p (l.refuses s e p (map-refused to (f.read s) e p h));
  }

pub looser-cond : {E : Type 0} {ends : E} {A : Type 0} {Dropped : E → Type 0} {f g h k : Format E ends A} (b : Bool) → Looser Dropped f g → Looser Dropped h k → Looser Dropped (cond b f h) (cond b g k)
looser-cond true l m = l
looser-cond false l m = m

-- so many items
module _ {E : Type 0} {ends : E} {A : Type 0} {Dropped : E → Type 0} (item loose : List A → Format E ends A) (l : (seen : List A) → Looser Dropped (item seen) (loose seen)) where
  items-same : (seen a : List A) → encode_items item seen a ≡ encode_items loose seen a
  items-same seen [] = refl
  items-same seen (x ∷ a) = rw ((l seen).same x, items-same (x ∷ seen) a)

  -- the items behind the first
  abbrev more : (List A → Format E ends A) → ℕ → List A → List ℕ → A → ℕ → Read E (List A)
  more f k seen s a n = shift n (λ l. a ∷ l) (read_items f k (a ∷ seen) (drop n s))

  items-takes : (k : ℕ) (seen : List A) (s : List ℕ) (a : List A) (n : ℕ) → read_items item k seen s ≡ done a n → read_items loose k seen s ≡ done a n
  unfolding read_items
  items-takes zero seen s a n h = h
  items-takes (suc k) seen s a n h =
      let y = bind_done ((item seen).read s) (more item k seen s) a n h in
      let w = shift-done y.1 (λ l. y.0 ∷ l) (read_items item k (y.0 ∷ seen) (drop y.1 s)) a n y.3 in
      rw ((l seen).takes s y.0 y.1 y.2, items-takes k (y.0 ∷ seen) (drop y.1 s) w.0 w.1 w.2, w.3, w.4)

  items-refuses : (k : ℕ) (seen : List A) (s : List ℕ) (e : E) (p : ℕ) → read_items item k seen s ≡ refused e p → (read_items loose k seen s ≡ refused e p) ⊎ Dropped e
  unfolding read_items
  items-refuses zero seen s e p h = not_done (sym h)
  items-refuses (suc k) seen s e p h = go ((item seen).read s) refl h (λ a n. items-refuses k (a ∷ seen) (drop n s) e)
    where
      out : (q n : ℕ) (a : A) → (item seen).read s ≡ done a n → n + q ≡ p → (read_items loose k (a ∷ seen) (drop n s) ≡ refused e q) ⊎ Dropped e
          → (bind ((loose seen).read s) (more loose k seen s) ≡ refused e p) ⊎ Dropped e
      out q n a z i (inl j) = inl (rw ((l seen).takes s a n z, j, i))
      out q n a z i (inr j) = inr j

      first : ((loose seen).read s ≡ refused e p) ⊎ Dropped e → (bind ((loose seen).read s) (more loose k seen s) ≡ refused e p) ⊎ Dropped e
      first (inl j) = inl (rw j)
      first (inr j) = inr j

      go : (r : Read E A) → (item seen).read s ≡ r → bind r (more item k seen s) ≡ refused e p
          → ((a : A) (n q : ℕ) → read_items item k (a ∷ seen) (drop n s) ≡ refused e q → (read_items loose k (a ∷ seen) (drop n s) ≡ refused e q) ⊎ Dropped e)
          → (bind ((loose seen).read s) (more loose k seen s) ≡ refused e p) ⊎ Dropped e
      go (done a n) z g ih =
          let x = shift-refused n (λ l. a ∷ l) (read_items item k (a ∷ seen) (drop n s)) e p g in
          out x.0 n a z x.2 (ih a n x.0 x.1)
      go (refused e₁ p₁) z g ih = first ((l seen).refuses s e p (z ∙ same-refusal g))

  pub looser-items : (k : ℕ) → Looser Dropped (items item k) (items loose k)
  unfolding items
  looser-items k = record { same = items-same []; takes = items-takes k []; refuses = items-refuses k [] }

  pub looser-listed : (k : ℕ) → Looser Dropped (listed k item) (listed k loose)
  unfolding listed
  looser-listed k = looser-iso _ _ _ _ _ _ (looser-then (number k) (number k) (items item) (items loose) (looser-self (number k)) looser-items) _ _ _ _

-- what the stricter one can write, the looser one can
pub looser-ok : {E : Type 0} {ends : E} {A : Type 0} {Dropped : E → Type 0} {f g : Format E ends A} → Looser Dropped f g → (a : A) → f.Ok a → g.Ok a
looser-ok {f = f} {g = g} l a ok = (g.backward (f.encode a) a _ (f.bytes a ok) (l.takes (f.encode a) a _ ((every-format f).reads-back a ok))).ok

-- ---- what is said of a value's bytes, whatever follows them
pub record Settled {E : Type 0} {ends : E} {A : Type 0} (f : Format E ends A) (a : A) : Type 0 where
  pub stays : (t : List ℕ) → f.read (f.encode a ++ t) ≡ f.read (f.encode a)
  pub itself : (c : A) (n : ℕ) → f.read (f.encode a) ≡ done c n → (c ≡ a) × (n ≡ length (f.encode a))

module _ {E : Type 0} {ends : E} {A : Type 0} {Dropped : E → Type 0} {strict loose : Format E ends A} (l : Looser Dropped strict loose) (a : A) (ok : loose.Ok a) where
  alone : loose.read (strict.encode a) ≡ done a (length (strict.encode a))
  alone = ap loose.read (l.same a ∙ sym (append-nil (loose.encode a))) ∙ loose.forward a ok [] ∙ ap (λ (s : List ℕ). done a (length s)) (sym (l.same a))

  bytes : Bytes (strict.encode a)
  bytes = rw (l.same a) (loose.bytes a ok)

  -- what the stricter one refuses of a value's bytes, it refuses by a test that was dropped
  pub dropped : {e : E} {p : ℕ} → strict.read (strict.encode a) ≡ refused e p → Dropped e
  dropped {e} {p} h = go (l.refuses (strict.encode a) e p h)
    where
      go : (loose.read (strict.encode a) ≡ refused e p) ⊎ Dropped e → Dropped e
      go (inl z) = not_done (sym z ∙ alone)
      go (inr z) = z

  stays_by : (Dropped ends → ⊥) → (t : List ℕ) (r : Read E A) → strict.read (strict.encode a) ≡ r → strict.read (strict.encode a ++ t) ≡ r
  stays_by kept t (done c n) h = local strict (strict.encode a) t c n bytes h
  stays_by kept t (refused e p) h = go (strict.stable_refusal (strict.encode a) t e p bytes h)
    where
      go : (e ≡ ends) ⊎ (strict.read (strict.encode a ++ t) ≡ refused e p) → strict.read (strict.encode a ++ t) ≡ refused e p
      go (inl w) = absurd (kept (subst Dropped w (dropped h)))
      go (inr w) = w

  pub settled : (Dropped ends → ⊥) → Settled strict a
  settled kept = record {
    stays = λ t. stays_by kept t (strict.read (strict.encode a)) refl;
    itself = λ c n h.
        let e : done c n ≡ done a (length (strict.encode a)) = sym (l.takes (strict.encode a) c n h) ∙ alone in
        ((cc), (cc));
  }

pub settled-ok : {E : Type 0} {ends : E} {A : Type 0} (f : Format E ends A) (a : A) → f.Ok a → Settled f a
settled-ok f a ok = settled {Dropped = λ _. ⊥} (looser-self f) a ok (λ z. z)

-- what is said of two values, one behind the other: n bytes are the first's
abbrev pub followed : {E A B C : Type 0} → Read E A → ℕ → (B → C) → Read E B → Read E C
followed (done a m) n to r = shift n to r
followed (refused e p) n to r = refused e p

module _ {E : Type 0} {ends : E} {A B : Type 0} (f : Format E ends A) (g : A → Format E ends B) (a : A) (b : B) (w : Settled f a) where
  behind-by : (t : List ℕ) (r : Read E A) → f.read (f.encode a) ≡ r
      → bind r (next g (f.encode a ++ t)) ≡ followed r (length (f.encode a)) (pair a) ((g a).read t)
  behind-by t (done c n) h =
      let k = w.itself c n h in
      rw (k.0, k.1, drop-append_seam)
  behind-by t (refused e p) h = refl

  behind : (t : List ℕ) → (f ⨾ g).read (f.encode a ++ t) ≡ followed (f.read (f.encode a)) (length (f.encode a)) (pair a) ((g a).read t)
  unfolding ◌⨾◌
  behind t = rw (w.stays t) (behind-by t (f.read (f.encode a)) refl)

  pub verdict_on-then : (f ⨾ g).read ((f ⨾ g).encode (pair a b)) ≡ followed (f.read (f.encode a)) (length (f.encode a)) (pair a) ((g a).read ((g a).encode b))
  unfolding ◌⨾◌
  verdict_on-then = behind ((g a).encode b)

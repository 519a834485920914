-- The rows that bytes are made of: step by step, and as what a list of rows writes.
use Prim.Native.Nat.{ℕ, zero, suc, zero-le, ◌-◌, ◌<◌, ◌≤◌}
use mathlib.Core.Path.{◌≡◌, refl, ap, ◌∙◌}
use mathlib.Core.Option.{some, none, map, none-ne-some, map-eq-some_iff}
use mathlib.Core.List.{List, [], ◌∷◌, ◌++◌}
use mathlib.Core.Bool.{Bool, true, false, cond}
use native.Mathlib.Numerals.{sub-one}
use native.Mathlib.Omega.{arith}
use lib.Dec.{eqb}
use lib.ListN.{length, drop, length-append}
use lib.Seq.{drop-append_seam}
use borrow.Author.Tests.{eq-eqb, ne_eqb, eqb-true}
use Rattle.wire.proofs.Lists.{nil_is}
use Rattle.wire.specs.Bytes.{Bytes, bytes_drop}
use Rattle.wire.specs.Read.{Read, done, refused}
use Rattle.wire.specs.Format.{OkItems, encode_items}
use Rattle.mapblock.specs.Inventory.{BlockFormat}
use Rattle.mapblock.specs.declared.fault.Fault.{Fault}
use Rattle.block_writer.specs.Frames.{whole_row_then, rows_in}

module _ {A : Type 0} (f : BlockFormat A) where
  -- ---- one step
  pub rows_empty : (k : ℕ) (s : List ℕ) → length s ≡ 0 → rows_in f k s ≡ some []
  unfolding rows_in
  rows_empty zero s h = rw (eq-eqb (length s) 0 h)
  rows_empty (suc k) s h = rw (eq-eqb (length s) 0 h)

  pub rows-over : (k : ℕ) (s : List ℕ) → 0 < length s → k ≡ 0 → rows_in f k s ≡ none
  unfolding rows_in
  rows-over k s h e = rw (e, ne_eqb (length s) 0 (λ z. omega arith))

  pub rows_on : (k : ℕ) (s : List ℕ) {a : A} {n : ℕ} → 0 < length s → 0 < k → f.read s ≡ done a n
      → rows_in f k s ≡ map (λ l. a ∷ l) (rows_in f (k - 1) (drop n s))
  unfolding rows_in
  rows_on zero s h p e = absurd (omega arith)
  rows_on (suc k) s h p e = rw (ne_eqb (length s) 0 (λ z. omega arith), e, sub-one)

  pub rows-stop : (k : ℕ) (s : List ℕ) {e : Fault} {p : ℕ} → 0 < length s → f.read s ≡ refused e p → rows_in f k s ≡ none
  unfolding rows_in
  rows-stop zero s h e = rw (ne_eqb (length s) 0 (λ z. omega arith))
  rows-stop (suc k) s h e = rw (ne_eqb (length s) 0 (λ z. omega arith), e)

  -- ---- rows that do not look at those before them
  pub encode-any : (x y l : List A) → encode_items (λ _. f) x l ≡ encode_items (λ _. f) y l
  encode-any x y [] = refl
  encode-any x y (a ∷ l) = ap (λ (t : List ℕ). f.encode a ++ t) (encode-any (a ∷ x) (a ∷ y) l)

  -- bytes that are at most k rows
  abbrev Made : ℕ → List ℕ → List A → Type 0
  Made k s l = ((seen : List A) → OkItems (λ _. f) (length l) seen l) × (s ≡ encode_items (λ _. f) [] l) × (length l ≤ k)

  made_none : {k : ℕ} {s : List ℕ} {l : List A} → length s ≡ 0 → some [] ≡ some l → Made k s l
  made_none {s = s} {l = l} h e = let z : [] ≡ l = cc in rw (← z, nil_is s h) ((λ seen. tt), refl, zero-le)

  made_one : {k : ℕ} {s : List ℕ} {a : A} {n : ℕ} (l : List A) → Bytes s → f.read s ≡ done a n → Made k (drop n s) l → Made (suc k) s (a ∷ l)
  made_one {s = s} {a = a} {n = n} l b e m =
      let t = f.backward s a n b e in (
        (λ seen. (t.ok, m.0 (a ∷ seen))),
        t.front ∙ ap (λ (x : List ℕ). f.encode a ++ x) (m.1 ∙ encode-any [] (a ∷ []) l),
        omega (arith, m.2),
      )

  pub rows_made_lem : (k : ℕ) (s : List ℕ) (l : List A) → Bytes s → rows_in f k s ≡ some l
      → ((seen : List A) → OkItems (λ _. f) (length l) seen l) × (s ≡ encode_items (λ _. f) [] l) × (length l ≤ k)
  unfolding rows_in
  rows_made_lem zero s l b h = go (eqb (length s) 0) refl h
    where
      go : (c : Bool) → eqb (length s) 0 ≡ c → cond c (some []) none ≡ some l → Made zero s l
      go true e g = made_none (eqb-true (length s) 0 e) g
      go false e g = absurd (none-ne-some l g)
  rows_made_lem (suc k) s l b h = go (eqb (length s) 0) refl (f.read s) refl h (λ n m. rows_made_lem k (drop n s) m (bytes_drop n s b))
    where
      go : (c : Bool) → eqb (length s) 0 ≡ c → (r : Read Fault A) → f.read s ≡ r
          → cond c (some []) (whole_row_then r λ n. rows_in f k (drop n s)) ≡ some l
          → ((n : ℕ) (m : List A) → rows_in f k (drop n s) ≡ some m → Made k (drop n s) m) → Made (suc k) s l
      go true e r d g ih = made_none (eqb-true (length s) 0 e) g
      go false e (done a n) d g ih =
          let x = (map-eq-some_iff (λ (m : List A). a ∷ m) (rows_in f k (drop n s))).0 g in
          rw (← x.2) (made_one x.0 b d (ih n x.0 x.1))
      go false e (refused k₁ p) d g ih = absurd (none-ne-some l g)

  -- the bytes of at most k rows
  rows-forward-by : ((a : A) → f.Ok a → 0 < length (f.encode a)) → (k : ℕ) (seen l : List A) → length l ≤ k → OkItems (λ _. f) (length l) seen l
      → rows_in f k (encode_items (λ _. f) seen l) ≡ some l
  rows-forward-by pos k seen [] h o = rows_empty k [] refl
  rows-forward-by pos k seen (a ∷ l) h o =
      let e = f.forward a o.0 (encode_items (λ _. f) (a ∷ seen) l) in
      let some_byte : 0 < length (f.encode a ++ encode_items (λ _. f) (a ∷ seen) l) = rw length-append (omega (arith, pos a o.0)) in
      rows_on k (encode_items (λ _. f) seen (a ∷ l)) some_byte (omega arith) e
      ∙ rw (drop-append_seam, rows-forward-by pos (k - 1) (a ∷ seen) l (omega arith) o.1)

  pub rows-forward : ((a : A) → f.Ok a → 0 < length (f.encode a)) → (k : ℕ) (l : List A) → length l ≤ k → OkItems (λ _. f) (length l) [] l
      → rows_in f k (encode_items (λ _. f) [] l) ≡ some l
  rows-forward pos k l h o = rows-forward-by pos k [] l h o

-- A number that is fixed, and what follows it.
use Prim.Native.Nat.{ℕ, ◌+◌}
use mathlib.Core.Path.{◌≡◌, refl, ap, sym, ◌∙◌}
use mathlib.Core.List.{List}
use mathlib.Core.Bool.{Bool, true, false}
use lib.Dec.{eqb, leb}
use lib.ListN.{length, take, drop}
use borrow.Author.Tests.{eq-eqb, ne_eqb, leb-true, leb-false, eqb-true, eqb-false}
use Rattle.wire.specs.Bytes.{from_be}
use Rattle.wire.specs.Read.{Read, done, refused, map_read, shift, not_done, shift-done}
use Rattle.wire.specs.Format.{Format, refine, ◌⨾◌, iso, pair}
use Rattle.wire.specs.Formats.{number, behind, fixed}
use Rattle.wire.proofs.Steps.{number-done, number-ends}

module _ {E : Type 0} (ends : E) {A : Type 0} (k v : ℕ) (e : E) (f : Format E ends A) (s : List ℕ) where
  pub fixed_on : {m : ℕ} → (number {ends = ends} k).read s ≡ done v m → (fixed k v e f).read s ≡ shift m (λ a. a) (f.read (drop m s))
  unfolding behind iso ◌⨾◌ refine
  fixed_on {m} h = rw (h, eq-eqb v v refl) (go (f.read (drop m s)))
    where
      go : (r : Read E A) → map_read (λ (x : ℕ × A). x.1) (shift m (pair v) r) ≡ shift m (λ a. a) r
      go (done a n) = refl
      go (refused k p) = refl

  pub fixed-other : {x m : ℕ} → (number {ends = ends} k).read s ≡ done x m → (x ≡ v → ⊥) → (fixed k v e f).read s ≡ refused e 0
  unfolding behind iso ◌⨾◌ refine
  fixed-other {x} h n = rw (h, ne_eqb x v n)

  pub fixed-refused : {i : E} {p : ℕ} → (number {ends = ends} k).read s ≡ refused i p → (fixed k v e f).read s ≡ refused i p
  unfolding behind iso ◌⨾◌ refine
  fixed-refused h = rw h

  pub fixed-done : {a : A} {n : ℕ} → (fixed k v e f).read s ≡ done a n → (m : ℕ) × (f.read (drop k s) ≡ done a m) × (k + m ≡ n)
  fixed-done {a} {n} h = go (leb k (length s)) refl (eqb (from_be 0 (take k s)) v) refl
    where
      go : (b : Bool) → leb k (length s) ≡ b → (d : Bool) → eqb (from_be 0 (take k s)) v ≡ d → (m : ℕ) × (f.read (drop k s) ≡ done a m) × (k + m ≡ n)
      go true p true q =
          let r : (number {ends = ends} k).read s ≡ done v k = number-done ends k s (leb-true _ _ p) ∙ ap (λ (x : ℕ). done x k) (eqb-true _ _ q) in
          let z = shift-done k (λ a. a) (f.read (drop k s)) a n (rw (fixed_on r) at h) in
          (z.1, z.2 ∙ ap (λ (x : A). done x z.1) z.3, z.4)
      go true p false q = not_done (sym (fixed-other (number-done ends k s (leb-true _ _ p)) (eqb-false _ _ q)) ∙ h)
      go false p d q = not_done (sym (fixed-refused (number-ends ends k s (leb-false _ _ p))) ∙ h)

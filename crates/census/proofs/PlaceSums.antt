-- What places keep when they are put in order, since every sum over them stays.
use Rattle.std.proofs.Common.{◌≡◌, ℕ, ◌+◌, Bool, true, false, cond, eqb, List, [], ◌∷◌, length, sym, refl, ap, ◌∙◌, arith, ne_eqb}
use borrow.Author.Tests.{eqb-false}
use Rattle.wire.specs.Order.{order, choose}
use Rattle.tally.specs.Rows.{count_in}
use Rattle.tally.specs.Tally.{ones}
use Rattle.census.specs.NamePlaces.{row_at, count_at, counted_names}
use Rattle.census.specs.NameOrder.{total, SortedFrom}
use Rattle.census.specs.UsedNames.{AllCounted, total_count}

-- ---- as sums
length-total : (l : List ℕ) → length l ≡ total (λ p. 1) l
length-total [] = refl
length-total (p ∷ l) = let h = length-total l in omega arith

module _ (s t : List ℕ) where
  -- the places that are not counted
  abbrev stray : ℕ → ℕ
  stray p = cond (eqb (count_at s t p) 0) 1 0

  counted_none : (l : List ℕ) → AllCounted s t l → total stray l ≡ 0
  counted_none [] h = refl
  counted_none (p ∷ l) h = rw (ne_eqb (count_at s t p) 0 (λ e. omega (arith, h.0))) (omega (arith, counted_none l h.1))

  none-counted : (l : List ℕ) → total stray l ≡ 0 → AllCounted s t l
  none-counted [] h = tt
  none-counted (p ∷ l) h = go (eqb (count_at s t p) 0) refl (none-counted l)
    where
      go : (b : Bool) → eqb (count_at s t p) 0 ≡ b → (total stray l ≡ 0 → AllCounted s t l) → AllCounted s t (p ∷ l)
      go true e k = absurd (omega (arith, ap (λ (b : Bool). cond {A = ℕ} b 1 0) e))
      go false e k = (omega (arith, eqb-false (count_at s t p) 0 e), k (omega arith))

  count-total : (n : List ℕ) (l : List ℕ) → count_in ones (counted_names s t l) n ≡ total (λ p. choose (order (row_at s p).name n) 0 (count_at s t p) 0) l
  count-total n [] = refl
  count-total n (p ∷ l) = ap (λ (m : ℕ). choose (order (row_at s p).name n) 0 (count_at s t p) 0 + m) (count-total n l)

  total_count-total : (l : List ℕ) → total_count (counted_names s t l) ≡ total (count_at s t) l
  total_count-total [] = refl
  total_count-total (p ∷ l) = ap (λ (m : ℕ). count_at s t p + m) (total_count-total l)

-- ---- what is kept
module _ {s xs ys : List ℕ} (a : SortedFrom s xs ys) where
  pub sorted-from-length : length ys ≡ length xs
  sorted-from-length = length-total ys ∙ a.same (λ p. 1) ∙ sym (length-total xs)

  module _ (t : List ℕ) where
    pub sorted-from-counted : AllCounted s t xs → AllCounted s t ys
    sorted-from-counted h = none-counted s t ys (a.same (stray s t) ∙ counted_none s t xs h)

    pub sorted-from-count : (n : List ℕ) → count_in ones (counted_names s t ys) n ≡ count_in ones (counted_names s t xs) n
    sorted-from-count n = count-total s t n ys ∙ a.same (λ p. choose (order (row_at s p).name n) 0 (count_at s t p) 0) ∙ sym (count-total s t n xs)

    pub sorted-from-total_count : total_count (counted_names s t ys) ≡ total_count (counted_names s t xs)
    sorted-from-total_count = total_count-total s t ys ∙ a.same (count_at s t) ∙ sym (total_count-total s t xs)

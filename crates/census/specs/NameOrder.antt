-- Places in the order of their names.
use Rattle.std.specs.Prelude.{◌≡◌, ℕ, ◌+◌, ◌≤◌, Bool, true, false, cond, List, [], ◌∷◌, length, take, drop, nat_lt, slice_index}
use Rattle.wire.specs.Order.{order, is_before}
use Rattle.census.specs.NamePlaces.{row_at}

-- whether the name at p comes before that at q
abbrev pub comes_before : List ℕ → ℕ → ℕ → Bool
comes_before s p q = is_before (order (row_at s p).name (row_at s q).name)

-- no name of the places comes before that at p
abbrev pub NoneBefore : List ℕ → ℕ → List ℕ → Type 0
NoneBefore s p [] = Unit {0}
NoneBefore s p (q ∷ qs) = (comes_before s q p ≡ false) × NoneBefore s p qs

-- the names of the places do not fall
abbrev pub Sorted : List ℕ → List ℕ → Type 0
Sorted s [] = Unit {0}
Sorted s (p ∷ ps) = NoneBefore s p ps × Sorted s ps

-- a sum over places
abbrev pub total : (ℕ → ℕ) → List ℕ → ℕ
total f [] = 0
total f (p ∷ ps) = f p + total f ps

-- the places ys are the places xs in the order of their names: every sum over them is the same
pub record SortedFrom (s xs ys : List ℕ) : Type 0 where
  pub rises : Sorted s ys
  pub same : (f : ℕ → ℕ) → total f ys ≡ total f xs

-- whether the next of two runs of places, a from i to mid and a from j on, is the first's
abbrev pub left_at : List ℕ → List ℕ → ℕ → ℕ → ℕ → Bool
left_at s a i mid j = cond (nat_lt i mid) (cond (nat_lt j (length a)) (cond (comes_before s (slice_index a j) (slice_index a i)) false true) true) false

-- two runs of places, each in order, that a room can take
pub record HalvesSorted (s a : List ℕ) (mid : ℕ) (b : List ℕ) : Type 0 where
  pub cut : mid ≤ length a
  pub room : length a ≤ length b
  pub first : Sorted s (take mid a)
  pub second : Sorted s (drop mid a)

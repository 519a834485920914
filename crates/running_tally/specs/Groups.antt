-- Places in order, a group of one name at a time.
use Rattle.std.specs.Prelude.{◌≡◌, ℕ, ◌<◌, ◌≤◌, List, [], ◌∷◌, length, drop, slice_index}
use Rattle.tally.specs.Rows.{Row, Rows, Canonical, plus}
use Rattle.tally.specs.Tally.{ones}
use Rattle.census.specs.NamePlaces.{row_at, counted_names}
use Rattle.census.specs.NameOrder.{Sorted}
use Rattle.running_tally.specs.RunningTally.{count_limit}
use Rattle.census.specs.UsedNames.{total_count}
use Rattle.running_tally.specs.declared.absorb.Group.{Group}

-- the rows that places make, those of one name joined
unfoldable pub gathered : List ℕ → List ℕ → List ℕ → Rows ones
gathered s c ps = plus ones (counted_names s c ps) []

-- the places from i on are in order and make the rows G
pub record Remaining (s c ps : List ℕ) (i : ℕ) (G : Rows ones) : Type 0 where
  pub rises : Sorted s (drop i ps)
  pub makes : gathered s c (drop i ps) ≡ G
  pub canonical : Canonical ones G

-- the name at the i-th place, with a count
abbrev pub named : List ℕ → List ℕ → ℕ → ℕ → Row ℕ
named s ps i count = record { name = (row_at s (slice_index ps i)).name; count = count }

-- g is the first of the rows G, and the others are left
pub record First (s c ps : List ℕ) (i : ℕ) (g : Group) (G : Rows ones) : Type 0 where
  pub H : Rows ones
  pub split : G ≡ named s ps i g.count ∷ H
  pub left : Remaining s c ps g.next H

pub record Grouped (s c ps : List ℕ) (i : ℕ) (g : Group) : Type 0 where
  pub on : i < g.next
  pub inside : g.next ≤ length ps
  pub first : (G : Rows ones) → Remaining s c ps i G → total_count G < count_limit → First s c ps i g G

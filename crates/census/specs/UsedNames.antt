-- The rows of names that a block uses: those whose id has a count.
use Rattle.std.specs.Prelude.{ℕ, ◌+◌, ◌≤◌, cond, List, [], ◌∷◌, length, take, ◌==◌, slice_index}
use Rattle.mapblock.specs.Data.{NameRow}
use Rattle.mapblock.specs.Table.{all_rows}
use Rattle.tally.specs.Rows.{Rows}
use Rattle.tally.specs.Tally.{ones}
use Rattle.census.specs.NamePlaces.{count_at}

-- the places of the rows whose id has a count, for rows that start at a place
unfoldable pub used_in : List ℕ → List NameRow → ℕ → List ℕ
used_in t [] at = []
used_in t (r ∷ l) at = cond (slice_index t r.id == 0) (used_in t l (at + 4 + length r.name)) (at ∷ used_in t l (at + 4 + length r.name))

-- the same of the rows at the front of some bytes, as many as there is room for
abbrev pub used_of : List ℕ → List ℕ → List ℕ
used_of t s = take 4096 (used_in t (all_rows s) 0)

-- the rows of a tally that they make
unfoldable pub used_counts : List ℕ → List NameRow → Rows ones
used_counts t [] = []
used_counts t (r ∷ l) = cond (slice_index t r.id == 0) (used_counts t l) (record { name = r.name; count = slice_index t r.id } ∷ used_counts t l)

-- every place has a name that is counted
abbrev pub AllCounted : List ℕ → List ℕ → List ℕ → Type 0
AllCounted s t [] = Unit {0}
AllCounted s t (p ∷ ps) = (1 ≤ count_at s t p) × AllCounted s t ps

-- the sum of all counts
abbrev pub total_count : Rows ones → ℕ
total_count [] = 0
total_count (r ∷ l) = r.count + total_count l

-- A name looked up among rows, and a row added there, as the functions of this crate tell each other: document 01, "a new row opens its place".
use Rattle.std.specs.Prelude.{ℕ, ◌+◌, ◌≤◌, ◌<◌, ◌≡◌, List, [], ◌∷◌, ◌++◌, length, take, drop}
use Rattle.std.proofs.Math.Option.{some}
use Rattle.wire.specs.Order.{order, choose}
use Rattle.wire.specs.Formats.{head_length}
use Rattle.wire.specs.Answer.{Answered}
use Rattle.std.specs.declared.cmp.Ordering.TheVariants.{Less}
use Rattle.tally.specs.Rows.{Counts, Row, Rows, Above, add_row}
use Rattle.wire.specs.Walk.{rows_read}
use Rattle.tally.specs.Tally.{fields, row, rows_of, ones, one}
use Rattle.tally.specs.Operations.{tallied}
use Rattle.tally.specs.Told.{told_add}
use Rattle.tally.specs.Walks.{rows_bytes, Holds}
use Rattle.tally.specs.declared.lookup.Lookup.{Lookup}
use Rattle.tally.specs.declared.lookup.Lookup.TheVariants as lookups
use Rattle.std.specs.Prelude.{Result}
use Rattle.tally.specs.declared.add.AddError.{AddError}

-- ---- a name looked up among the rows at the front of some bytes
-- the rows at the front, each judged alone: a row has bytes, so that there are no more rows than bytes
abbrev pub all_rows : List ℕ → Rows ones
all_rows s = rows_read (row one []).read (length s) s

-- Rows whose names come before n are passed. The row that bears n is told by its place and its count; where the next row's name comes after n, or
-- no row is left, n's row would be there.
unfoldable pub lookup_in : List ℕ → ℕ → Rows ones → Lookup
lookup_in n at [] = lookups.Absent at
lookup_in n at (r ∷ l) = choose (order r.name n) (lookup_in n (at + (length r.name + 10)) l) (lookups.Present at r.count) (lookups.Absent at)

abbrev pub lookup_of : List ℕ → List ℕ → Lookup
lookup_of s n = lookup_in n 0 (all_rows s)

-- ---- what that is of bytes that hold rows
-- every name of the rows comes before n
module _ (S : Counts) where
  abbrev pub Below : List ℕ → Rows S → Type 0
  Below n [] = Unit {0}
  Below n (r ∷ l) = (order r.name n ≡ Less) × Below n l

-- the name's row r stands at a place of the rows L, between D and R
pub record RowPresent (n : List ℕ) (at count : ℕ) (L : Rows ones) : Type 0 where
  pub D : Rows ones
  pub r : Row ℕ
  pub R : Rows ones
  pub split : L ≡ D ++ r ∷ R
  pub below : Below ones n D
  pub name : r.name ≡ n
  pub counts : r.count ≡ count
  pub place : at ≡ length (rows_bytes one D)

-- the name has no row; its place is between D and R
pub record RowAbsent (n : List ℕ) (at : ℕ) (L : Rows ones) : Type 0 where
  pub D : Rows ones
  pub R : Rows ones
  pub split : L ≡ D ++ R
  pub below : Below ones n D
  pub above : Above ones n R
  pub place : at ≡ length (rows_bytes one D)

abbrev pub LookedUp : List ℕ → List ℕ → Lookup → Type 0
LookedUp s n (lookups.Present at count) = (at + (length n + 10) ≤ length s) × ((L : Rows ones) → Holds one s L → RowPresent n at count L)
LookedUp s n (lookups.Absent at) = (at ≤ length s) × ((L : Rows ones) → Holds one s L → RowAbsent n at L)

-- ---- a row inserted in front of the first n bytes of a buffer
abbrev pub row_inserted : ℕ → Row ℕ → List ℕ → List ℕ
row_inserted n r d = (fields one).encode r ++ (take n d ++ drop (n + length ((fields one).encode r)) d)

-- ---- a row added to the tally in the first n bytes of a buffer
-- n bytes that may be a tally of so many rows, and a row that may be added
pub record AddReady (d : List ℕ) (n rows : ℕ) (r : Row ℕ) : Type 0 where
  pub long : head_length ≤ n
  pub inside : n ≤ length d
  pub counts : (L : Rows ones) → rows_of one (take n d) ≡ some L → rows ≡ length L
  pub name : length r.name < 65536
  pub stands : 0 < r.count

abbrev pub AddedAs : List ℕ → List ℕ → ℕ → Row ℕ → Result ℕ AddError → Type 0
AddedAs before after n r a = (L : Rows ones) → rows_of one (take n before) ≡ some L → Answered (told_add a) before after (tallied one (length before) (add_row ones r L))

-- The rows of a tally in the front of a lent buffer, and counted names added to them.
use Rattle.std.specs.Prelude.{◌≡◌, ℕ, ◌+◌, ◌<◌, ◌≤◌, List, [], length, take, drop, Option, Some, None}
use Rattle.tally.specs.Rows.{Rows, Canonical}
use Rattle.tally.specs.Tally.{ones, one}
use Rattle.tally.specs.Walks.{rows_bytes}
use Rattle.census.specs.NamePlaces.{counted_names}
use Rattle.census.specs.NameOrder.{Sorted}
use Rattle.census.specs.UsedNames.{AllCounted, total_count}
use Rattle.running_tally.specs.declared.state.RunningTally.{RunningTally}

-- with no rows
abbrev pub none : Option RunningTally
none = Some (record { size = 0; rows = 0 })

-- what no count reaches
abbrev pub count_limit : ℕ  -- 2^64
count_limit = 18446744073709551616

-- the front of t is the rows R
pub record Held (t : List ℕ) (w : RunningTally) (R : Rows ones) : Type 0 where
  pub size : w.size ≡ length (rows_bytes one R)
  pub bytes : take w.size t ≡ rows_bytes one R
  pub inside : w.size ≤ length t
  pub rows : w.rows ≡ length R

-- the running tally is R, and t holds it, or none of it is held, since it is longer than t
pub record Runs (t : List ℕ) (w : Option RunningTally) (R : Rows ones) : Type 0 where
  pub canonical : Canonical ones R
  pub total_fits : total_count R < count_limit
  pub held : (v : RunningTally) → w ≡ Some v → Held t v R
  pub lost : w ≡ None → length t < length (rows_bytes one R)

-- the counted names at places in order may be added to R
pub record Absorbs (s c ps t : List ℕ) (w : Option RunningTally) (R : Rows ones) : Type 0 where
  pub runs : Runs t w R
  pub rises : Sorted s ps
  pub counted : AllCounted s c ps
  pub total_fits : total_count (counted_names s c ps) + total_count R < count_limit
  pub rows_fit : length ps + length R < count_limit

-- where R was, T is now; bytes behind it are as they were, and all bytes where there is no room for the first names
pub record Absorbed (t t' : List ℕ) (w : Option RunningTally) (R T : Rows ones) : Type 0 where
  pub runs : Runs t' w T
  pub behind : (v : RunningTally) → w ≡ Some v → drop v.size t' ≡ drop v.size t
  pub untouched : R ≡ [] → w ≡ None → t' ≡ t

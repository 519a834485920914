-- What the code knows of a sheet between its records, and what its answers say: document 01, 'The numbers a call comes back with'.
use Rattle.std.specs.Prelude.{◌≡◌, ℕ, ◌*◌, ◌<◌, ◌≤◌, List, length}
use Rattle.wire.specs.Told.{option_of}
use Rattle.wire.specs.Answer.{Answer, good, refusal}
use Rattle.census.specs.UsedNames.{total_count}
use Rattle.running_tally.specs.RunningTally.{Runs, none}
use Rattle.meter.specs.Counting.{by_one}
use Rattle.meter.specs.Streaming.{State}
use Rattle.meter.specs.SheetTold.{told_sheet_error}
use Rattle.mapblock.specs.Table.{clear_table}
use Rattle.meter.specs.declared.stream.Progress.{Progress}
use Rattle.std.specs.Prelude.{None, Ok, Err, Result}
use Rattle.meter.specs.declared.answer.SheetError.{SheetError}

-- ---- between records
-- The spare t carries the state: its rows are the running tally, with room in the limits of rows and counts for one record more.
pub record Carries (t : List ℕ) (progress : Progress) (state : State by_one) : Type 0 where
  pub last : option_of progress.last ≡ state.last
  pub records : progress.records ≡ state.records
  pub runs : Runs t progress.tally state.rows
  pub total_fits : total_count state.rows ≤ 4096 * state.records
  pub rows_fit : length state.rows ≤ 4096 * state.records

-- before any record; every spare carries it
abbrev pub begun : Progress
begun = record { last = None; records = 0; tally = none }

-- a step from a state that is carried, with clear tables, to a record whose number a u32 holds
pub record Steps (ids counts t : List ℕ) (progress : Progress) (state : State by_one) : Type 0 where
  pub ids-clear : ids ≡ clear_table
  pub counts-clear : counts ≡ clear_table
  pub carries : Carries t progress state
  pub number : state.records < 4294967295

-- ---- what the answers say
abbrev pub told_start : Result Progress SheetError → Answer Progress
told_start (Ok p) = good p
told_start (Err e) = told_sheet_error e

-- the first answer is a refusal, and the second is the same
abbrev pub Refuses : {A : Type 0} → Answer ℕ → Answer A → Type 0
Refuses (good n) a = ⊥
Refuses (refusal n r o) a = a ≡ refusal n r o

-- what came of a record, and what the definitions answer: the spare t carries the state after it, with where it ends; or it is refused
abbrev pub StepMatches : List ℕ → Result (Progress × ℕ) SheetError → Answer (State by_one × ℕ) → Type 0
StepMatches t (Ok (q, n)) a = (v : State by_one) × (a ≡ good (v, n)) × Carries t q v
StepMatches t (Err e) a = Refuses (told_sheet_error e) a

-- a record that is taken lies within the bytes that it is taken from
abbrev pub TakenInside : List ℕ → Result (Progress × ℕ) SheetError → Type 0
TakenInside s (Ok (q, n)) = n ≤ length s
TakenInside s (Err r) = Unit {0}

-- on a refusal a lent buffer is as it was
abbrev pub Untouched : {A : Type 0} → Answer A → List ℕ → List ℕ → Type 0
Untouched (good a) before after = Unit {0}
Untouched (refusal n r o) before after = after ≡ before

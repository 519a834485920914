-- What the answers of tallying a sheet say: document 01, 'The numbers a call comes back with'.
use Rattle.std.specs.Prelude.{ℕ, ◌+◌, ◌<◌, List, length}
use Rattle.wire.specs.Answer.{Answer, good, refusal, plain, bad_part, parts_misfit, sheet_malformed, no_room, too_many, then_answer, Answered}
use Rattle.tally.specs.Rows.{plus}
use Rattle.tally.specs.Tally.{ones}
use Rattle.position.specs.declared.part.Part.{Part}
use Rattle.meter.specs.Standing.{nodes_in}
use Rattle.meter.specs.Counting.{tally_of, by_one}
use Rattle.sheet.specs.Sheet.{records_from, sheet_of}
use Rattle.meter.specs.SheetTally.{fitted_sheet}
use Rattle.meter.specs.Streaming.{State}
use Rattle.sheet.specs.Records.{faulty}
use Rattle.std.specs.Prelude.{Ok, Err, Result}
use Rattle.meter.specs.declared.answer.SheetError.{SheetError}
use Rattle.meter.specs.declared.answer.SheetError.TheVariants as sheet_errors

-- ---- from one record to the next
-- what a sheet's tally answers from a state on, with so many records to come in these bytes
abbrev pub answer_from : Part → ℕ → State by_one → ℕ → List ℕ → Answer (List ℕ)
answer_from p room w k s =
    then_answer (records_from k w.records w.last s) λ l. fitted_sheet by_one room (plus ones (tally_of by_one (nodes_in p l)) w.rows) (w.records + length l)

-- a u32 holds the number of all records
abbrev pub Numbered : State by_one → ℕ → Type 0
Numbered w k = w.records + k < 4294967296

-- ---- the whole
abbrev pub told_sheet_error : {A : Type 0} → SheetError → Answer A
told_sheet_error sheet_errors.BadPart = plain bad_part
told_sheet_error sheet_errors.Misfit = plain parts_misfit
told_sheet_error (sheet_errors.Malformed i) = refusal sheet_malformed i 0
told_sheet_error (sheet_errors.Record f i) = faulty f i
told_sheet_error (sheet_errors.NoRoom i) = refusal no_room i 0
told_sheet_error (sheet_errors.TooMany i) = refusal too_many i 0

abbrev pub told_sheet : Result ℕ SheetError → Answer ℕ
told_sheet (Ok n) = good n
told_sheet (Err e) = told_sheet_error e

-- the tally of the sheet's blocks, put into a buffer
abbrev pub SheetPut : Part → List ℕ → List ℕ → List ℕ → Result ℕ SheetError → Type 0
SheetPut p s before after r = Answered (told_sheet r) before after (then_answer (sheet_of s) λ l. fitted_sheet by_one (length before) (tally_of by_one (nodes_in p l)) (length l))

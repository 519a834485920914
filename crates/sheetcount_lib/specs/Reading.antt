-- What the answers of reading say. No contract can say which bytes a file gives, or that a read fails, so they say that there are bytes s of which
-- they are true, unless a read failed.
use Rattle.std.specs.Prelude.{ℕ, ◌+◌, ◌≡◌, ⊤, List, Result, Ok, Err}
use Rattle.wire.specs.Bytes.{Bytes}
use Rattle.wire.specs.Answer.{Answer, good, refusal, Answered}
use Rattle.meter.specs.Counting.{by_one}
use Rattle.meter.specs.Streaming.{State}
use Rattle.mapblock.specs.Table.{clear_table}
use Rattle.meter.specs.Progress.{Carries}
use Rattle.meter.specs.SheetTold.{told_sheet}
use Rattle.sheetcount_lib.specs.Program.{max_block_length, block_length_of, counted_from, sheetcount_of}
use Rattle.meter.specs.declared.stream.Progress.{Progress}
use Rattle.sheetcount_lib.specs.declared.reading.CountError.{CountError}
use Rattle.sheetcount_lib.specs.declared.reading.CountError.TheVariants as count_errors
use Rattle.meter.specs.declared.answer.SheetError.{SheetError}

-- the longest record: twelve bytes and its block
abbrev pub longest : ℕ
longest = 12 + max_block_length

-- how many bytes a record has, as far as its first twelve tell: with its block, unless it is too long
abbrev pub stated_length : Answer ℕ → ℕ
stated_length (good n) = n
stated_length (refusal n i o) = 0

abbrev pub record_length : List ℕ → ℕ
record_length s = 12 + stated_length (block_length_of 0 s)

-- ---- the whole
-- what holds of a sheet's answer, unless a read failed
abbrev pub IfRead : (Result ℕ SheetError → Type 0) → Result ℕ CountError → Type 0
IfRead holds (Ok n) = holds (Ok n)
IfRead holds (Err (count_errors.Sheet e)) = holds (Err e)
IfRead holds (Err (count_errors.Read e)) = ⊤

-- behind the last record there are the bytes s, with which the state that the spare t carries is finished
pub record Ended (t : List ℕ) (q : Progress) (before after : List ℕ) (r : Result ℕ SheetError) : Type 0 where
  pub s : List ℕ
  pub bytes : Bytes s
  pub answered : (w : State by_one) → Carries t q w → Answered (told_sheet r) before after (counted_from 0 w s)

-- the tables are clear
pub record Ready (ids counts : List ℕ) : Type 0 where
  pub ids-clear : ids ≡ clear_table
  pub counts-clear : counts ≡ clear_table

-- there are bytes s of which the answer, and what the output then holds, are what f makes of them
pub record SheetCounted (f : List ℕ → Answer (List ℕ)) (before after : List ℕ) (r : Result ℕ SheetError) : Type 0 where
  pub s : List ℕ
  pub bytes : Bytes s
  pub answered : Answered (told_sheet r) before after (f s)

-- they are the program's, whatever the output held before
pub record CountedAs (out : List ℕ) (r : Result ℕ SheetError) : Type 0 where
  pub before : List ℕ
  pub into : SheetCounted sheetcount_of before out r

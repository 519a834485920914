-- What the code's answers to row questions say: document 01, 'Order', "Row question: 2, then 16 for an empty part, then the reader's 1, 3 or 4",
-- where document 02's item 2 has 34 for 3.
use Rattle.std.specs.Prelude.{ℕ}
use Rattle.wire.specs.Answer.{Answer, good, refusal, plain, no_such}
use Rattle.mapblock.specs.Numbers.{refusal_number}
use Rattle.std.specs.Prelude.{Ok, Err, Result}
use Rattle.block_reader.specs.declared.row_questions.RowError.{RowError}
use Rattle.block_reader.specs.declared.row_questions.RowError.TheVariants as row_errors

abbrev pub told_row_answer : {A : Type 0} → Result (A × ℕ) RowError → Answer (A × ℕ)
told_row_answer (Ok (row, n)) = good (row, n)
told_row_answer (Err row_errors.NoSuchRow) = plain no_such
told_row_answer (Err (row_errors.Refused w)) = refusal (refusal_number w.fault) 0 w.offset

-- What the code's answers say: document 01, 'The numbers a call comes back with'.
use Rattle.std.specs.Prelude.{ℕ, ◌+◌, List, take, drop}
use Rattle.std.proofs.Math.Option.{Option, some, none}
use Rattle.wire.specs.Answer.{Answer, good, plain, no_room, parts_misfit, tally_malformed, too_many, no_such}
use Rattle.tally.specs.Rows.{Row}
use Rattle.std.specs.Prelude.{Some, None, Ok, Err, Result, Option as Optional}
use Rattle.tally.specs.declared.add.AddError.{AddError}
use Rattle.tally.specs.declared.merge.MergeError.{MergeError}
use Rattle.tally.specs.declared.rows.RowError.{RowError}
use Rattle.tally.specs.declared.merge.MergeError.TheVariants as merge_errors
use Rattle.tally.specs.declared.rows.RowError.TheVariants as row_errors
use Rattle.tally.specs.declared.add.AddError.TheVariants as add_errors

-- a row at the front of s, by the length of its name and its count
abbrev pub told_row : List ℕ → Optional (ℕ × ℕ) → Option (Row ℕ × ℕ)
told_row s (Some (n, c)) = some (record { name = take n (drop 2 s); count = c }, n + 10)
told_row s None = none

-- of the front row its count and its length are told; its name comes back as a slice
abbrev pub shown_row : Row ℕ × ℕ → ℕ × ℕ
shown_row x = (x.0.count, x.1)

abbrev pub told_front : Result (ℕ × ℕ) RowError → Answer (ℕ × ℕ)
told_front (Ok (c, n)) = good (c, n)
told_front (Err row_errors.NoSuchRow) = plain no_such
told_front (Err row_errors.Malformed) = plain tally_malformed

-- the number of rows
abbrev pub told_check : Optional ℕ → Answer ℕ
told_check (Some n) = good n
told_check None = plain tally_malformed

-- the length of the tally
abbrev pub told_add : Result ℕ AddError → Answer ℕ
told_add (Ok n) = good n
told_add (Err add_errors.NameTooLong) = plain parts_misfit
told_add (Err add_errors.Malformed) = plain tally_malformed
told_add (Err add_errors.TooMany) = plain too_many
told_add (Err add_errors.NoRoom) = plain no_room

abbrev pub told_merge : Result ℕ MergeError → Answer ℕ
told_merge (Ok n) = good n
told_merge (Err merge_errors.Malformed) = plain tally_malformed
told_merge (Err merge_errors.TooMany) = plain too_many
told_merge (Err merge_errors.NoRoom) = plain no_room

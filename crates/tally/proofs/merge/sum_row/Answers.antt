use Prim.Native.Nat.{◌+◌, ◌<◌}
use mathlib.Core.Path.{◌≡◌}
use borrow.Author.Rules.{rules}
use Rattle.tally.specs.Tally.{max_count}
use Rattle.tally.proofs.SumRows.{both-ended, first_alone, second-alone, both-before, both-after, both-same, both-many}
use Rattle.tally.proofs.merge.sum_row.Goals as goal

pub returns-in_err-ok_or-in-Equal : goal.returns-in_err-ok_or-in-Equal
returns-in_err-ok_or-in-Equal c =
    let s = c.in-Some-Some in
    let large : max_count < s.c + s.d = search rules in
    both-many _ _ _ _ s.ensures s.ensures' c.compare.ensures c.in-Equal.is large c.from_residual.result c.from_residual.ensures.0

pub returns-in-None-None : goal.returns-in-None-None
returns-in-None-None c =
    both-ended _ _ c.in-None-None.is-0 c.in-None-None.is-1 c.front_row.ensures c.front_row-2.ensures

pub returns-in-None-Some : goal.returns-in-None-Some
returns-in-None-Some c =
    rw c.row_of_second.ensures (second-alone _ _ _ c.in-None-Some.ensures c.in-None-Some.is-0 c.front_row.ensures)

pub returns-in-Some-None : goal.returns-in-Some-None
returns-in-Some-None c =
    rw c.row_of_first.ensures (first_alone _ _ _ c.in-Some-None.ensures c.in-Some-None.is-1 c.front_row-2.ensures)

pub returns-in-Less : goal.returns-in-Less
returns-in-Less c = let s = c.in-Some-Some in rw c.row_of_first-in-Less.ensures (both-before _ _ _ _ s.ensures s.ensures' c.compare.ensures c.in-Less.is)

pub returns-in-Greater : goal.returns-in-Greater
returns-in-Greater c = let s = c.in-Some-Some in rw c.row_of_second-in-Greater.ensures (both-after _ _ _ _ s.ensures s.ensures' c.compare.ensures c.in-Greater.is)

pub returns-in_ok-ok_or-in-Equal : goal.returns-in_ok-ok_or-in-Equal
returns-in_ok-ok_or-in-Equal c =
    let s = c.in-Some-Some in
    let sum : c.in_ok-ok_or-in-Equal.field-0 ≡ s.c + s.d = search rules in
    rw sum (both-same _ _ _ _ s.ensures s.ensures' c.compare.ensures c.in-Equal.is)

use mathlib.Core.Path.{◌≡◌}
use borrow.Author.Rules.{rules}
use Rattle.std.specs.Prelude.{Err}
use Rattle.wire.proofs.Steps.{told-as}
use Rattle.tally.specs.Tally.{one}
use Rattle.tally.specs.Told.{told_check}
use Rattle.tally.specs.declared.merge.MergeError.TheVariants as merge_errors
use Rattle.tally.proofs.Held.{opened}
use Rattle.tally.proofs.Checks.{checked, check-long}
use Rattle.tally.proofs.Merging.{first-bad, second-bad, both-good}
use Rattle.tally.proofs.merge.merge.Goals as goal

pub returns-in_err-ok_or : goal.returns-in_err-ok_or
returns-in_err-ok_or c =
    let a = c.args in
    let is : c.from_residual.result ≡ Err merge_errors.Malformed = search rules in
    rw is (first-bad a.a.now a.b.now a.out.now (told-as told_check c.check.ensures c.in_err-ok_or.ensures.ok_part))

pub returns-in_err-ok_or-2 : goal.returns-in_err-ok_or-2
returns-in_err-ok_or-2 c =
    let a = c.args in
    let first = checked one a.a.now (told-as told_check c.check.ensures c.in_ok-ok_or.ensures.ok_part) in
    let is : c.from_residual-in_err-ok_or-2.result ≡ Err merge_errors.Malformed = search rules in
    rw is (second-bad a.a.now a.b.now a.out.now first (told-as told_check c.check-2.ensures c.in_err-ok_or-2.ensures.ok_part))

pub slice_bounds-merge_rows-count : goal.slice_bounds-merge_rows-count
slice_bounds-merge_rows-count c = check-long c.args.a.now (λ i. (c.type_inv.a i).fits) (told-as told_check c.check.ensures c.in_ok-ok_or.ensures.ok_part)

pub slice_bounds-merge_rows-start : goal.slice_bounds-merge_rows-start
slice_bounds-merge_rows-start c = check-long c.args.a.now (λ i. (c.type_inv.a i).fits) (told-as told_check c.check.ensures c.in_ok-ok_or.ensures.ok_part)

pub slice_bounds-merge_rows-count-2 : goal.slice_bounds-merge_rows-count-2
slice_bounds-merge_rows-count-2 c = check-long c.args.b.now (λ i. (c.type_inv.b i).fits) (told-as told_check c.check-2.ensures c.in_ok-ok_or-2.ensures.ok_part)

pub slice_bounds-merge_rows-start-2 : goal.slice_bounds-merge_rows-start-2
slice_bounds-merge_rows-start-2 c = check-long c.args.b.now (λ i. (c.type_inv.b i).fits) (told-as told_check c.check-2.ensures c.in_ok-ok_or-2.ensures.ok_part)

pub returns : goal.returns
returns c =
    let a = c.args in
    let first = checked one a.a.now (told-as told_check c.check.ensures c.in_ok-ok_or.ensures.ok_part) in
    let second = checked one a.b.now (told-as told_check c.check-2.ensures c.in_ok-ok_or-2.ensures.ok_part) in
    both-good a.a.now a.b.now a.out.now c.merge_rows.result first second
    (opened one a.a.now first.l (λ i. (c.type_inv.a i).fits) first.is) (opened one a.b.now second.l (λ i. (c.type_inv.b i).fits) second.is) c.merge_rows.ensures

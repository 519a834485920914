use Prim.Native.Nat.{◌+◌, ◌<◌}
use mathlib.Core.Path.{◌≡◌}
use native.Mathlib.Omega.{arith}
use borrow.Author.Rules.{rules}
use lib.ListN.{length-drop}
use Rattle.std.specs.Prelude.{Err}
use Rattle.wire.proofs.Lists.{rest-is}
use Rattle.tally.specs.Tally.{max_count, max_rows}
use Rattle.tally.specs.declared.add.AddError.TheVariants as add_errors
use Rattle.tally.proofs.Adding.{row-place, row-full, row-counted, new-place, new-many, new-full, new-added}
use Rattle.tally.proofs.add.add_row.Goals as goal

pub returns-in_err-sum-in-Present : goal.returns-in_err-sum-in-Present
returns-in_err-sum-in-Present c L e =
    let large : max_count < c.in-Present.before + c.args.count = search rules in
    let is : c.from_residual.result ≡ Err add_errors.TooMany = search rules in
    rw is (row-full c.requires (λ i. search rules) e c.in-Present.ensures large)

pub overflow_add-at : goal.overflow_add-at
overflow_add-at c = omega (arith, row-place c.requires (λ i. search rules) c.in-Present.ensures)

pub overflow_add-at-in-Present : goal.overflow_add-at-in-Present
overflow_add-at-in-Present c = omega (arith, row-place c.requires (λ i. search rules) c.in-Present.ensures)

pub overflow_add-at-in-Present-2 : goal.overflow_add-at-in-Present-2
overflow_add-at-in-Present-2 c = omega (arith, row-place c.requires (λ i. search rules) c.in-Present.ensures)

pub returns-in_ok-sum-in-Present : goal.returns-in_ok-sum-in-Present
returns-in_ok-sum-in-Present c L e =
    let sum : c.in_ok-sum-in-Present.sum ≡ c.in-Present.before + c.args.count = search rules in
    row-counted c.requires (λ i. search rules) e c.in-Present.ensures _ (omega (arith, sum)) (rw sum at c.put_number.ensures)

pub returns-in_err-more-in-Absent : goal.returns-in_err-more-in-Absent
returns-in_err-more-in-Absent c L e =
    let large : max_rows < c.args.rows + 1 = search rules in
    let is : c.from_residual-in_err-more-in-Absent.result ≡ Err add_errors.TooMany = search rules in
    rw is (new-many c.requires (λ i. search rules) e c.in-Absent.ensures (omega (arith, large)))

pub returns-then-buffer-used : goal.returns-then-buffer-used
returns-then-buffer-used c L e =
    let more : c.in_ok-more-in-Absent.more ≡ c.args.rows + 1 = search rules in
    new-full c.requires (λ i. search rules) e c.in-Absent.ensures (omega (arith, more)) (omega arith) c.if-buffer-used.true

pub overflow_add-place : goal.overflow_add-place
overflow_add-place c = omega (arith, new-place c.requires (λ i. search rules) c.in-Absent.ensures)

pub slice_bounds-insert_row-count : goal.slice_bounds-insert_row-count
slice_bounds-insert_row-count c = omega (arith, new-place c.requires (λ i. search rules) c.in-Absent.ensures)

pub slice_bounds-insert_row-start : goal.slice_bounds-insert_row-start
slice_bounds-insert_row-start c = omega (arith, new-place c.requires (λ i. search rules) c.in-Absent.ensures)

pub overflow_sub-used : goal.overflow_sub-used
overflow_sub-used c = omega (arith, new-place c.requires (λ i. search rules) c.in-Absent.ensures)

pub insert_row-requires : goal.insert_row-requires
insert_row-requires c =
    (c.requires.name, rw (rest-is (c.in-Absent.at + 9) c.args.buffer.now, length-drop) (omega (arith, new-place c.requires (λ i. search rules) c.in-Absent.ensures)))

pub returns-else-buffer-used : goal.returns-else-buffer-used
returns-else-buffer-used c L e =
    let more : c.in_ok-more-in-Absent.more ≡ c.args.rows + 1 = search rules in
    new-added c.requires (λ i. search rules) e c.in-Absent.ensures (omega arith) _ c.insert_row.ensures _ (omega (arith, more)) (omega arith) (rw more at c.put_number-in-Absent.ensures)

use native.Mathlib.Omega.{arith}
use mathlib.Core.Path.{ap, sym}
use Rattle.wire.specs.Formats.{listed}
use Rattle.mapblock.specs.ListKinds.{row_after}
use Rattle.mapblock.specs.Told.{ended}
use Rattle.mapblock.specs.declared.fault.Fault.TheVariants as fault
use Rattle.wire.proofs.Fixed.{fixed-refused, fixed-other}
use Rattle.mapblock.proofs.Leaves.{by_number}
use Rattle.wire.specs.Told.{told_number}
use Rattle.mapblock.proofs.RowLists.{fixed_told}
use Rattle.mapblock.proofs.Refusals.{none_becomes, part_refused, part_done}
use Rattle.wire.proofs.Handed.{handed_on}
use Rattle.mapblock.proofs.lists.fixed_list.Goals as goal

pub returns-in_err-v : goal.returns-in_err-v
returns-in_err-v c =
    let a = c.args in
    let none = c.in_err-v.ensures in
    rw (none_becomes _ c.from_residual.ensures.1 none.value none.ok_part c.ends.ensures)
    (ap ended (sym (fixed-refused fault.Ends 1 a.value a.fault (listed 2 (row_after a.kind a.version)) _ (by_number 1 _ (told_number 1) c.number_at.ensures none.ok_part))))

pub returns-then-v-value : goal.returns-then-v-value
returns-then-v-value c =
    let a = c.args in
    let byte = by_number 1 _ (told_number 1) c.number_at.ensures c.in_ok-v.ensures.ok_part in
    rw c.from.ensures (ap ended (sym (fixed-other fault.Ends 1 a.value a.fault (listed 2 (row_after a.kind a.version)) _ byte c.if-v-value.true)))

pub returns-in_err-n : goal.returns-in_err-n
returns-in_err-n c =
    let a = c.args in
    let byte = by_number 1 _ (told_number 1) c.number_at.ensures c.in_ok-v.ensures.ok_part in
    rw (handed_on _ c.from_residual-in_err-n.ensures.1)
    (part_refused (listed 2 (row_after a.kind a.version)) 1 a.s.now c.listed.result c.in_err-n.ensures c.listed.ensures (omega arith) (omega arith) (λ e p k. fixed_told 1 a.value a.fault (listed 2 (row_after a.kind a.version)) a.s.now byte c.if-v-value.false k))

pub returns : goal.returns
returns c =
    let a = c.args in
    let byte = by_number 1 _ (told_number 1) c.number_at.ensures c.in_ok-v.ensures.ok_part in
    fixed_told 1 a.value a.fault (listed 2 (row_after a.kind a.version)) a.s.now byte c.if-v-value.false (part_done (listed 2 (row_after a.kind a.version)) 1 a.s.now c.listed.result c.in_ok-n.ensures c.listed.ensures)

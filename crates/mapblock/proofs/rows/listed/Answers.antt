use native.Mathlib.Omega.{arith}
use mathlib.Core.Path.{ap, sym}
use Rattle.wire.specs.Format.{items}
use Rattle.mapblock.specs.ListKinds.{row_after}
use Rattle.mapblock.specs.Told.{ended}
use Rattle.mapblock.proofs.Leaves.{by_number}
use Rattle.wire.specs.Told.{told_number}
use Rattle.wire.proofs.Joints.{listed-refused}
use Rattle.mapblock.proofs.RowLists.{listed-told}
use Rattle.mapblock.proofs.Refusals.{none_becomes, part_refused, part_done}
use Rattle.wire.proofs.Handed.{handed_on}
use Rattle.mapblock.proofs.rows.listed.Goals as goal

pub returns-in_err-count : goal.returns-in_err-count
returns-in_err-count c =
    let a = c.args in
    let none = c.in_err-count.ensures in
    rw (none_becomes _ c.from_residual.ensures.1 none.value none.ok_part c.ends.ensures)
    (ap ended (sym (listed-refused 2 (row_after a.kind a.version) _ (by_number 2 _ (told_number 2) c.number_at.ensures none.ok_part))))

pub returns-in_err-n : goal.returns-in_err-n
returns-in_err-n c =
    let a = c.args in
    let count = by_number 2 _ (told_number 2) c.number_at.ensures c.in_ok-count.ensures.ok_part in
    rw (handed_on _ c.from_residual-in_err-n.ensures.1)
    (part_refused (items (row_after a.kind a.version) c.in_ok-count.count) 2 a.s.now c.rows.result c.in_err-n.ensures c.rows.ensures (omega arith) (omega arith) (λ e p k. listed-told 2 (row_after a.kind a.version) a.s.now count k))

pub returns : goal.returns
returns c =
    let a = c.args in
    let count = by_number 2 _ (told_number 2) c.number_at.ensures c.in_ok-count.ensures.ok_part in
    listed-told 2 (row_after a.kind a.version) a.s.now count (part_done (items (row_after a.kind a.version) c.in_ok-count.count) 2 a.s.now c.rows.result c.in_ok-n.ensures c.rows.ensures)

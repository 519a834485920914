use native.Mathlib.Omega.{arith}
use Rattle.mapblock.specs.ListKinds.{row_after}
use Rattle.mapblock.proofs.Readings.{reading-end, reading-refused}
use Rattle.mapblock.proofs.RowLists.{walk_start, walk-told, walk-on}
use Rattle.mapblock.proofs.Refusals.{told_refused, told_done}
use Rattle.wire.proofs.Handed.{handed_on}
use Rattle.mapblock.proofs.rows.rows.Goals as goal

pub loop-init : goal.loop-init
loop-init c = walk_start _ _ _ _

pub returns-in_err-n : goal.returns-in_err-n
returns-in_err-n c =
    let l = c.loop in
    let w = l.invariant in
    rw (handed_on _ c.from_residual.ensures.1)
    (told_refused (row_after c.args.kind c.args.version w.reading.seen) l.at c.args.s.now c.row_after.result c.in_err-n.ensures (walk-told w c.row_after.ensures) (omega arith) (omega arith) (λ e p k. reading-refused w.reading c.loop-test.true k))

pub loop-preserved : goal.loop-preserved
loop-preserved c =
    let l = c.loop in
    let w = l.invariant in
    walk-on w c.row_after.ensures (told_done (row_after c.args.kind c.args.version w.reading.seen) l.at c.args.s.now c.row_after.result c.in_ok-n.ensures (walk-told w c.row_after.ensures)) c.loop-test.true

pub returns : goal.returns
returns c = reading-end c.loop.invariant.reading (omega arith)

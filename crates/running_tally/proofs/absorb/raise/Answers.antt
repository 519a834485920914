use Rattle.std.proofs.Common.{arith}
use Rattle.running_tally.proofs.Raising.{raising-start, raising-row, raising-place, raising-full, raising-end}
use Rattle.running_tally.proofs.absorb.raise.Goals as goal

pub loop-i-init : goal.loop-i-init
loop-i-init c = let n = c.args.names in raising-start n.rows.now n.counts.now n.places.now c.args.buffer.now c.args.size (omega arith)

pub returns : goal.returns
returns c = let n = c.args.names in raising-end n.rows.now n.counts.now n.places.now c.args.buffer.now c.args.size _ _ _ _ _ c.loop-i.invariant c.loop-i-test.false

pub loop-i-preserved-in-Present : goal.loop-i-preserved-in-Present
loop-i-preserved-in-Present c =
    let n = c.args.names in
    raising-row n.rows.now n.counts.now n.places.now c.args.buffer.now c.args.size _ _ _ _ _ c.loop-i.invariant _ c.group_at-group.ensures _ c.name_at-name.ensures.told _ _ c.in-Present.count c.raise_row.auto.buffer c.in-Present.ensures

pub returns-then-room-missing : goal.returns-then-room-missing
returns-then-room-missing c =
    let n = c.args.names in
    raising-full n.rows.now n.counts.now n.places.now c.args.buffer.now c.args.size _ _ _ _ _ c.loop-i.invariant _ c.group_at-group.ensures _ c.name_at-name.ensures.told _ _ c.in-Absent.ensures c.if-room-missing.true

pub loop-i-preserved : goal.loop-i-preserved
loop-i-preserved c =
    let n = c.args.names in
    raising-place n.rows.now n.counts.now n.places.now c.args.buffer.now c.args.size _ _ _ _ _ c.loop-i.invariant _ c.group_at-group.ensures _ c.name_at-name.ensures.told _ _ c.in-Absent.ensures c.if-room-missing.false

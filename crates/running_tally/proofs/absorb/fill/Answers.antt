use Rattle.running_tally.proofs.Filling.{filling-on, filling-closed, filling-end}
use Rattle.running_tally.proofs.absorb.fill.Goals as goal

pub loop-i-preserved : goal.loop-i-preserved
loop-i-preserved c =
    let n = c.args.names in
    filling-on n.rows.now n.counts.now n.places.now c.args.buffer.now c.args.missing c.args.end _ _ _ c.loop-i.invariant _ c.group_at-group.ensures _ c.name_at-name.ensures.told _ _ c.fill_row-hole.auto.buffer c.fill_row-hole.ensures

pub returns-else-hole : goal.returns-else-hole
returns-else-hole c = let n = c.args.names in filling-closed n.rows.now n.counts.now n.places.now c.args.buffer.now c.args.missing c.args.end _ _ _ c.loop-i.invariant c.if-hole.false

pub returns-after-loop-i : goal.returns-after-loop-i
returns-after-loop-i c = let n = c.args.names in filling-end n.rows.now n.counts.now n.places.now c.args.buffer.now c.args.missing c.args.end _ _ _ c.loop-i.invariant c.loop-i-test.false

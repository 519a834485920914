use Rattle.std.proofs.Common.{refl, arith}
use Rattle.running_tally.proofs.Groups.{gathering-start, gathering-on, gathering-end, gathering-stop, as-named}
use Rattle.running_tally.proofs.absorb.group_at.Goals as goal

pub loop-j-init : goal.loop-j-init
loop-j-init c = let a = c.args in gathering-start a.names.rows.now a.names.counts.now a.names.places.now a.i _ c.count_at-count.ensures (omega arith)

pub returns-then-is_ne : goal.returns-then-is_ne
returns-then-is_ne c =
    let a = c.args in
    gathering-stop a.names.rows.now a.names.counts.now a.names.places.now a.i _ _ c.loop-j.invariant c.loop-j-test.true
    (as-named c.name_at-name.ensures.told c.name_at.ensures.told c.compare.ensures c.if-is_ne.ensures)

pub loop-j-preserved : goal.loop-j-preserved
loop-j-preserved c =
    let a = c.args in
    gathering-on a.names.rows.now a.names.counts.now a.names.places.now a.i _ _ c.loop-j.invariant c.loop-j-test.true _ _
    (as-named c.name_at-name.ensures.told c.name_at.ensures.told c.compare.ensures c.if-is_ne.ensures)
    c.count_at-count-in-loop-j.ensures refl

pub returns : goal.returns
returns c = let a = c.args in gathering-end a.names.rows.now a.names.counts.now a.names.places.now a.i _ _ c.loop-j.invariant c.loop-j-test.false

use native.Mathlib.Omega.{arith}
use Rattle.mapblock.specs.MetadataChecks.{variable_for}
use Rattle.mapblock.proofs.Readings.{ended-done, reading-start, reading-end, reading-refused, reading-on}
use Rattle.mapblock.proofs.Refusals.{part_refused, part_done}
use Rattle.wire.proofs.Handed.{handed_on}
use Rattle.mapblock.proofs.metadata.variables.Goals as goal

pub loop-init : goal.loop-init
loop-init c = reading-start _ _ _

pub returns-in_err-n : goal.returns-in_err-n
returns-in_err-n c =
    let l = c.loop in
    rw (handed_on _ c.from_residual.ensures.1)
    (part_refused (variable_for c.args.values c.args.version) l.at c.args.s.now c.variable.result c.in_err-n.ensures c.variable.ensures (omega arith) (omega arith) (λ e p k. reading-refused l.invariant c.loop-test.true k))

pub loop-preserved : goal.loop-preserved
loop-preserved c =
    let l = c.loop in
    let one = part_done (variable_for c.args.values c.args.version) l.at c.args.s.now c.variable.result c.in_ok-n.ensures c.variable.ensures in
    reading-on l.invariant c.loop-test.true (ended-done _ one).1

pub returns : goal.returns
returns c = reading-end c.loop.invariant (omega arith)

use native.Mathlib.Omega.{arith}
use Rattle.tally.proofs.Measuring.{measuring-start, measuring-end, measuring-many, measuring-on}
use Rattle.tally.proofs.merge.measure.Goals as goal

pub loop-row-init : goal.loop-row-init
loop-row-init c = measuring-start _ _

pub returns-in_err-row : goal.returns-in_err-row
returns-in_err-row c = measuring-many c.loop-row.invariant c.in_err-row.ensures c.from_residual.result c.from_residual.ensures.0

pub loop-row-preserved : goal.loop-row-preserved
loop-row-preserved c = measuring-on c.loop-row.invariant c.in-Some.is c.in_ok-row.ensures (omega arith)

pub returns : goal.returns
returns c = measuring-end c.loop-row.invariant c.in_default.is c.in_ok-row.ensures

use native.Mathlib.Omega.{arith}
use Rattle.tally.proofs.PutSums.{writing_start, writing-on}
use Rattle.tally.proofs.merge.put_rows.Goals as goal

pub loop-row-init : goal.loop-row-init
loop-row-init c = writing_start _ _ _

pub loop-row-preserved : goal.loop-row-preserved
loop-row-preserved c = writing-on c.loop-row.invariant c.in-Ok-Some.field-0-is c.in-Ok-Some.ensures (omega arith) c.put_sum_row.ensures (omega arith)

-- The invariant: what is counted so far, with the rows that are left, makes the sum. The measure: the bytes of both lists that are left.
use Prim.Native.Nat.{◌+◌}
use lib.ListN.{length}
use Rattle.tally.proofs.Measuring.{Measuring}
use Rattle.tally.proofs.merge.measure.Given as goal

abbrev pub invariant-loop-row : goal.invariant-loop-row
invariant-loop-row l = Measuring l.a l.b l.x l.y l.rows l.size

abbrev pub decreases-loop-row : goal.decreases-loop-row
decreases-loop-row l = length l.x + length l.y

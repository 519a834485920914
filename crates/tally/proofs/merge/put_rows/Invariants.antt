-- The invariant: the rows that are written, with those that are left, make the sum. The measure: the bytes of both lists that are left.
use Prim.Native.Nat.{◌+◌}
use lib.ListN.{length}
use Rattle.tally.proofs.PutSums.{Writing}
use Rattle.tally.proofs.merge.put_rows.Given as goal

abbrev pub invariant-loop-row : goal.invariant-loop-row
invariant-loop-row l = Writing l.a l.b l.x l.y l.initial.out l.out l.at

abbrev pub decreases-loop-row : goal.decreases-loop-row
decreases-loop-row l = length l.x + length l.y

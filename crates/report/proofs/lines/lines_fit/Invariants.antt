-- The invariant: the room that is left, with the lines that were passed, makes the room. The measure: the number of bytes of rows
-- that are left.
use lib.ListN.{length}
use Rattle.report.proofs.Passing.{Measuring}
use Rattle.report.proofs.lines.lines_fit.Given as goal

abbrev pub invariant-loop-n : goal.invariant-loop-n
invariant-loop-n l = Measuring l.rows l.rest l.room l.left

abbrev pub decreases-loop-n : goal.decreases-loop-n
decreases-loop-n l = length l.rest

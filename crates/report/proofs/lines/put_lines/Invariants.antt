-- The invariant: the lines that are written, with those of the rows that are left, make the lines. The measure: the number of bytes of rows
-- that are left.
use lib.ListN.{length}
use Rattle.report.proofs.Passing.{Writing}
use Rattle.report.proofs.lines.put_lines.Given as goal

abbrev pub invariant-loop-n : goal.invariant-loop-n
invariant-loop-n l = Writing l.from l.rows l.rest l.initial.out l.out l.at

abbrev pub decreases-loop-n : goal.decreases-loop-n
decreases-loop-n l = length l.rest

use Rattle.std.proofs.Common.{length}
use Rattle.census.proofs.Cleared.{Clearing}
use Rattle.census.proofs.clear.clear.Given as goal

abbrev pub invariant-loop-row : goal.invariant-loop-row
invariant-loop-row l = Clearing l.names l.rest l.initial.counts l.counts

abbrev pub decreases-loop-row : goal.decreases-loop-row
decreases-loop-row l = length l.rest

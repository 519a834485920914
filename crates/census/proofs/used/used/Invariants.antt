use Rattle.std.proofs.Common.{length}
use Rattle.census.proofs.UsedWalk.{Using}
use Rattle.census.proofs.used.used.Given as goal

abbrev pub invariant-loop-n : goal.invariant-loop-n
invariant-loop-n l = Using l.s l.counts l.rest l.at l.initial.places l.places l.n

abbrev pub decreases-loop-n : goal.decreases-loop-n
decreases-loop-n l = length l.rest

-- The invariant: looked up from the place on, among the rows that are left, the name is as from the front. The measure: the bytes that are left.
use lib.ListN.{length}
use Rattle.tally.proofs.LookingUp.{LooksUp}
use Rattle.tally.proofs.lookup.look_up.Given as goal

abbrev pub invariant-loop-n : goal.invariant-loop-n
invariant-loop-n l = LooksUp l.s l.name l.rest l.at

abbrev pub decreases-loop-n : goal.decreases-loop-n
decreases-loop-n l = length l.rest

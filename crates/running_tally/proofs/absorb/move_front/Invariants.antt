use Rattle.running_tally.proofs.Moves.{Copying}
use Rattle.running_tally.proofs.absorb.move_front.Given as goal

abbrev pub invariant-loop-i : goal.invariant-loop-i
invariant-loop-i l = Copying l.initial.buffer l.from l.to l.n l.buffer l.i

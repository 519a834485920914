use Rattle.std.proofs.Common.{◌-◌, length}
use Rattle.running_tally.proofs.Raising.{Raising}
use Rattle.running_tally.proofs.absorb.raise.Given as goal

abbrev pub invariant-loop-i : goal.invariant-loop-i
invariant-loop-i l = Raising l.names.rows.now l.names.counts.now l.names.places.now l.initial.buffer l.size l.i l.at l.missing l.rows l.buffer

abbrev pub decreases-loop-i : goal.decreases-loop-i
decreases-loop-i l = length l.names.places.now - l.i

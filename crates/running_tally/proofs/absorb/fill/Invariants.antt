use Rattle.std.proofs.Common.{◌-◌, length}
use Rattle.running_tally.proofs.Filling.{Filling}
use Rattle.running_tally.proofs.absorb.fill.Given as goal

abbrev pub invariant-loop-i : goal.invariant-loop-i
invariant-loop-i l = Filling l.names.rows.now l.names.counts.now l.names.places.now l.initial.buffer l.missing l.end l.i l.hole l.buffer

abbrev pub decreases-loop-i : goal.decreases-loop-i
decreases-loop-i l = length l.names.places.now - l.i

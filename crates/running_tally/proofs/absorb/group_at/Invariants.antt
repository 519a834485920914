use Rattle.running_tally.proofs.Groups.{Gathering}
use Rattle.running_tally.proofs.absorb.group_at.Given as goal

abbrev pub invariant-loop-j : goal.invariant-loop-j
invariant-loop-j l = Gathering l.names.rows.now l.names.counts.now l.names.places.now l.i l.count l.j

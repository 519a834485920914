-- The variables so far were read up to the place, and those that are left give the answer asked.
use Rattle.mapblock.specs.MetadataChecks.{variable_for}
use Rattle.mapblock.proofs.Readings.{Reading}
use Rattle.mapblock.proofs.metadata.variables.Given as goal

abbrev pub invariant-loop : goal.invariant-loop
invariant-loop l = Reading (λ _. variable_for l.values l.version) l.count l.s l.at l.counter

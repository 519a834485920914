-- The rows so far were read up to the place and their ids are marked; the rows that are left give the answer, and the table can be put back.
use Rattle.mapblock.proofs.NameLoop.{Named}
use Rattle.mapblock.proofs.names.name_rows.Given as goal

abbrev pub invariant-loop-read : goal.invariant-loop-read
invariant-loop-read l = Named l.initial.ids l.s l.count l.ids l.at l.read

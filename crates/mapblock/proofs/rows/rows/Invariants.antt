-- The rows so far were read up to the place and their positions are marked, and the rows that are left give the answer asked.
use Rattle.mapblock.proofs.RowLists.{Walk}
use Rattle.mapblock.proofs.rows.rows.Given as goal

abbrev pub invariant-loop : goal.invariant-loop
invariant-loop l = Walk l.kind l.version l.count l.s l.marks l.at l.counter

-- The first j columns are raised to the row of bytes, and no column has become less.
use Rattle.mapblock.specs.Bounds.{Raised}
use Rattle.mapblock.proofs.bound.raise.Given as goal

abbrev pub invariant-loop-j : goal.invariant-loop-j
invariant-loop-j l = Raised l.s l.at l.j l.initial.columns l.columns

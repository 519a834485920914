-- Of the first i columns that are looked at, none is above `most`.
use Rattle.mapblock.specs.Bounds.{NoneAbove}
use Rattle.mapblock.proofs.bound.greatest_of.Given as goal

abbrev pub invariant-loop-i : goal.invariant-loop-i
invariant-loop-i l = NoneAbove l.i l.columns l.first l.most

-- The end line looked for from the place on, at the start of a line or not, is the one looked for from the front.
use mathlib.Core.Path.{◌≡◌}
use mathlib.Core.Bool.{true}
use lib.ListN.{drop}
use Rattle.mapblock.specs.Inventory.{through}
use Rattle.mapblock.proofs.Lines.{later}
use Rattle.mapblock.proofs.inventory.inventory.Given as goal

abbrev pub invariant-loop-at : goal.invariant-loop-at
invariant-loop-at l = later l.at (through l.fresh (drop l.at l.s)) ≡ through true l.s

-- The first unmapped node from index i on is the first of all.
use Prim.Native.Nat.{◌-◌}
use mathlib.Core.Path.{◌≡◌}
use Rattle.mapblock.specs.Block.{first_from}
use Rattle.mapblock.specs.Params.{unmarked_in, first_unmapped_in}
use Rattle.mapblock.proofs.nodes.first_unmapped_in.Given as goal

abbrev pub invariant-loop-i : goal.invariant-loop-i
invariant-loop-i l = first_from (unmarked_in l.version l.s l.ids) (4096 - l.i) l.i ≡ first_unmapped_in l.version l.s l.ids

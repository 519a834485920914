use Rattle.mapblock.specs.Block.{first_from}
use Prim.Native.Nat.{◌-◌}
use mathlib.Core.Path.{◌≡◌}
use Rattle.block_writer.specs.Judging.{unmarked_among, first_unmapped_among}
use Rattle.block_writer.proofs.measure.first_unmapped.Given as goal

abbrev pub invariant-loop-i : goal.invariant-loop-i
invariant-loop-i l = first_from (unmarked_among l.version l.param0 l.param2 l.ids) (4096 - l.i) l.i ≡ first_unmapped_among l.version l.param0 l.param2 l.ids

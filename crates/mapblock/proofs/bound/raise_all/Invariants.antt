-- No byte of the rows so far is above its column.
use Prim.Native.Nat.{◌*◌}
use Rattle.mapblock.specs.Bounds.{Reached}
use Rattle.mapblock.proofs.bound.raise_all.Given as goal

abbrev pub invariant-loop-row : goal.invariant-loop-row
invariant-loop-row l = Reached l.s (l.row * 128) l.columns

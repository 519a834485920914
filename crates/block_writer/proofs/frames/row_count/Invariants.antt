use Prim.Native.Nat.{◌-◌}
use Rattle.block_writer.specs.Sections.{frame_of}
use Rattle.block_writer.proofs.RowCounts.{Counting}
use Rattle.block_writer.proofs.frames.row_count.Given as goal

abbrev pub invariant-loop-rest : goal.invariant-loop-rest
invariant-loop-rest l = Counting (frame_of l.section l.version) l.s l.rest l.count

abbrev pub decreases-loop-rest : goal.decreases-loop-rest
decreases-loop-rest l = 65535 - l.count

use lib.ListN.{length}
use Rattle.mapblock.proofs.Entries.{Filled}
use Rattle.block_reader.proofs.read.fill8.Given as goal

abbrev pub invariant-loop-i : goal.invariant-loop-i
invariant-loop-i l = Filled 1 (length l.initial.out) l.s l.out l.i

use Rattle.block_writer.proofs.Entries.{Laying}
use Rattle.block_writer.proofs.write.put_wide.Given as goal

abbrev pub invariant-loop-i : goal.invariant-loop-i
invariant-loop-i l = Laying 2 l.at l.param0 l.initial.out l.out l.i

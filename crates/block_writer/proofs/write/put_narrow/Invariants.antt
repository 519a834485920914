use Rattle.block_writer.proofs.Entries.{Laying}
use Rattle.block_writer.proofs.write.put_narrow.Given as goal

abbrev pub invariant-loop-i : goal.invariant-loop-i
invariant-loop-i l = Laying 1 l.at l.param0 l.initial.out l.out l.i

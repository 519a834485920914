use Rattle.wire.proofs.Stores.{Spelling}
use Rattle.wire.proofs.store.put_bits.Given as goal

abbrev pub invariant-loop-i : goal.invariant-loop-i
invariant-loop-i l = Spelling l.at l.k l.v l.initial.out l.out l.x l.i

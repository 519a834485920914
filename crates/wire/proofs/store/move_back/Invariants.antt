use Rattle.wire.proofs.Stores.{Moving}
use Rattle.wire.proofs.store.move_back.Given as goal

abbrev pub invariant-loop-i : goal.invariant-loop-i
invariant-loop-i l = Moving l.n l.by l.initial.s l.s l.i

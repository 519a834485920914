use Rattle.std.proofs.Common.{arith}
use Rattle.running_tally.proofs.Moves.{copying-none, copying-on}
use Rattle.running_tally.proofs.absorb.move_front.Goals as goal

pub returns-then-from-to : goal.returns-then-from-to
returns-then-from-to c = let a = c.args in copying-none a.buffer.now a.from a.to a.n (omega arith) (omega arith) c.if-from-to.true

pub loop-i-preserved : goal.loop-i-preserved
loop-i-preserved c = let a = c.args in let l = c.loop-i in copying-on a.buffer.now a.from a.to a.n (omega arith) (omega arith) l.buffer l.i l.invariant (omega arith)

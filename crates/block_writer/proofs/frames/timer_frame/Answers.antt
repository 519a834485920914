use mathlib.Core.Path.{refl}
use Rattle.block_writer.proofs.FrameLengths.{timer-told}
use Rattle.block_writer.proofs.frames.timer_frame.Goals as goal

pub returns : goal.returns
returns c = rw c.then_some.ensures (timer-told c.args.s.now _ refl)

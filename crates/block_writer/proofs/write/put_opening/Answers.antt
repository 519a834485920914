use native.Mathlib.Omega.{arith}
use Rattle.block_writer.proofs.PutPieces.{opening-old, opening-new}
use Rattle.block_writer.proofs.write.put_opening.Goals as goal

pub returns-then-head-lt27 : goal.returns-then-head-lt27
returns-then-head-lt27 c = opening-old c.args.head _ _ _ c.requires c.put_number.ensures c.put_number-2.ensures (omega arith)

pub returns : goal.returns
returns c = opening-new c.args.head _ _ _ c.requires c.put_number.ensures c.put_number-2.ensures (omega arith) _ c.put_number-3.ensures

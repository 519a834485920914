use native.Mathlib.Omega.{arith}
use Rattle.wire.proofs.Puts.{put-number, put_two}
use Rattle.block_writer.proofs.write.put_byte_and_list.Goals as goal

pub returns : goal.returns
returns c = put_two c.requires (put-number c.args.at 1 c.args.byte (omega (arith, c.requires)) c.put_number.ensures) (λ _. c.put_list.ensures)

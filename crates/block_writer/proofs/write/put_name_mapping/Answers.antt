use native.Mathlib.Omega.{arith}
use Rattle.wire.proofs.Puts.{put-number, put_two}
use Rattle.block_writer.proofs.write.put_name_mapping.Goals as goal

pub returns : goal.returns
returns c = put_two c.requires (put-number c.args.at 4 c.args.timestamp (omega (arith, c.requires)) c.put_number.ensures) (λ _. c.put_byte_and_list.ensures)

use Prim.Native.Nat.{◌+◌}
use native.Mathlib.Omega.{arith}
use Rattle.wire.proofs.Puts.{put-run, put-number, put_two}
use Rattle.block_writer.proofs.write.put_list.Goals as goal

pub returns : goal.returns
returns c =
    let a = c.args in
    put_two c.requires (put-number a.at 2 a.count (omega (arith, c.requires)) c.put_number.ensures) (λ r. put-run (a.at + 2) a.rows.now r c.put_bytes.ensures)

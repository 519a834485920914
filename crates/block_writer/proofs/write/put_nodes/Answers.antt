use native.Mathlib.Omega.{arith}
use Rattle.wire.proofs.Puts.{put_two}
use Rattle.block_writer.proofs.PutPieces.{widths-put}
use Rattle.block_writer.proofs.write.put_nodes.Goals as goal

pub returns : goal.returns
returns c =
    let a = c.args in
    let widths = widths-put a.version _ a.at a.out.now _ _ (omega (arith, c.requires)) c.width.ensures c.put_number.ensures c.put_number-2.ensures in
    put_two c.requires widths (λ r. put_two r c.put_param0-first.ensures (λ s. put_two s c.put_run-second.ensures (λ _. c.put_run.ensures)))

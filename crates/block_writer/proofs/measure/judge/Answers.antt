use native.Mathlib.Omega.{arith}
use Prim.Native.Nat.{◌*◌, ◌<◌}
use Rattle.mapblock.specs.Layout.{width}
use Rattle.mapblock.proofs.Firsts.{first_below}
use Rattle.block_reader.proofs.BlockAnswers.{clear-all}
use Rattle.block_reader.proofs.Endings.{width-place}
use Rattle.block_writer.specs.Parts.{parts_of}
use Rattle.block_writer.proofs.Judged.{block-front, block-rest, block-done, block-unmapped}
use Rattle.wire.proofs.Handed.{handed_on}
use Rattle.block_writer.proofs.measure.judge.Goals as goal

pub returns-in_err-a : goal.returns-in_err-a
returns-in_err-a c = rw (handed_on _ c.from_residual.ensures.1) (block-front (parts_of c.args.parts.now) c.args.counts c.requires (clear-all 65536) c.in_err-a.ensures.told)

pub returns-in_err-n : goal.returns-in_err-n
returns-in_err-n c =
    rw (handed_on _ c.from_residual-in_err-n.ensures.1)
    (block-rest (parts_of c.args.parts.now) c.args.counts c.requires (clear-all 65536) c.in_ok-a.ensures.told c.judge_rest.ensures.told c.in_err-n.ensures)

pub overflow_mul-result : goal.overflow_mul-result
overflow_mul-result c =
    let within : width c.args.parts.now.head.version * c.in-Some.i < 8192 = (width-place c.args.parts.now.head.version c.in-Some.i (first_below _ 4096 0 c.in-Some.ensures)).0 in
    rw c.width.ensures (omega arith)

pub overflow_add-result : goal.overflow_add-result
overflow_add-result c =
    let within : width c.args.parts.now.head.version * c.in-Some.i < 8192 = (width-place c.args.parts.now.head.version c.in-Some.i (first_below _ 4096 0 c.in-Some.ensures)).0 in
    rw c.width.ensures (omega (arith, c.in_ok-a.ensures.bounded, c.requires.small.0))

pub returns-in-None : goal.returns-in-None
returns-in-None c = block-done (parts_of c.args.parts.now) c.args.counts c.requires (clear-all 65536) c.in_ok-a.ensures.told c.judge_rest.ensures.told c.in_ok-n.ensures c.in-None.ensures

pub returns-in-Some : goal.returns-in-Some
returns-in-Some c =
    rw (c.width.ensures, c.lists_length.ensures)
    (block-unmapped (parts_of c.args.parts.now) c.args.counts c.requires (clear-all 65536) c.in_ok-a.ensures.told c.judge_rest.ensures.told c.in_ok-n.ensures c.in-Some.ensures)

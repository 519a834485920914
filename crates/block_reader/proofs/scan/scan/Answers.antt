use native.Mathlib.Omega.{arith}
use Rattle.mapblock.specs.Table.{free_in}
use Rattle.block_reader.proofs.Verdicts.{verdict-refused}
use Rattle.block_reader.proofs.Rests.{front-inside}
use Rattle.block_reader.proofs.ReadUpTo.{block-no-front}
use Rattle.wire.proofs.Handed.{handed_on}
use Rattle.block_reader.proofs.scan.scan.Goals as goal

pub slice_bounds-unmark-count : goal.slice_bounds-unmark-count
slice_bounds-unmark-count c =
    let F = c.in_ok-fields.ensures in
    omega (arith, front-inside F, F.ends)

pub slice_bounds-unmark-start : goal.slice_bounds-unmark-start
slice_bounds-unmark-start c =
    let F = c.in_ok-fields.ensures in
    omega (arith, front-inside F, F.ends)

pub returns-in_err-fields-clause-told : goal.returns-in_err-fields-clause-told
returns-in_err-fields-clause-told c =
    rw (handed_on _ c.from_residual.ensures.1) (verdict-refused (free_in c.args.ids.now) c.args.s.now (block-no-front (free_in c.args.ids.now) c.args.s.now c.in_err-fields.ensures.0))

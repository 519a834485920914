use mathlib.Core.Path.{◌∙◌}
use Rattle.wire.specs.Bytes.{Bytes}
use Rattle.block_writer.proofs.MetadataJudging.{metadata-zero, metadata-counted}
use Rattle.block_writer.proofs.measure.judge_metadata.Goals as goal

pub returns-then-head-ne-LIST_COUNTED-clause-told : goal.returns-then-head-ne-LIST_COUNTED-clause-told
returns-then-head-ne-LIST_COUNTED-clause-told c =
    λ l w f. metadata-zero c.args.head f l c.metadata_head-before_rows.ensures c.if-head-ne-LIST_COUNTED.true

pub returns-clause-told : goal.returns-clause-told
returns-clause-told c =
    let a = c.args in
    let b : Bytes a.list.now = λ i. (c.type_inv.list i).fits in
    λ l w f. c.shift.ensures ∙ metadata-counted a.head f l b c.metadata_head-before_rows.ensures c.if-head-ne-LIST_COUNTED.false c.rows.ensures w

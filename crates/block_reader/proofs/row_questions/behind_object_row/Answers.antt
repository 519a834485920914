use Rattle.mapblock.specs.Layout.{object_row}
use Rattle.mapblock.specs.Rows.{object_fields}
use Rattle.block_reader.proofs.AskedRanges.{row_within}
use Rattle.block_reader.proofs.row_questions.behind_object_row.Goals as goal

pub behind_row-requires : goal.behind_row-requires
behind_row-requires c = row_within object_fields object_row c.args.rows.now _ c.object_row_of.ensures

use mathlib.Core.Path.{◌∙◌}
use Rattle.mapblock.proofs.MetadataRows.{values-told}
use Rattle.mapblock.proofs.metadata.metadata_row.Goals as goal

pub returns : goal.returns
returns c = c.row.ensures ∙ values-told _ _

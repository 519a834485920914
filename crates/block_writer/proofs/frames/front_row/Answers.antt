use mathlib.Core.Path.{◌∙◌}
use Rattle.mapblock.specs.Layout.{object_row}
use Rattle.mapblock.specs.Rows.{object_fields}
use Rattle.block_writer.proofs.FrameLengths.{long-told, name-told, metadata-told, of-section}
use Rattle.block_writer.proofs.frames.front_row.Goals as goal

pub returns-in-Names : goal.returns-in-Names
returns-in-Names c = of-section _ _ c.in-Names.is (c.length_of.ensures ∙ name-told _ c.name_row.ensures)

pub returns-in-Metadata : goal.returns-in-Metadata
returns-in-Metadata c = of-section _ _ c.in-Metadata.is (c.length_of-in-Metadata.ensures ∙ metadata-told _ _ c.metadata_frame.ensures)

pub returns-in-Objects : goal.returns-in-Objects
returns-in-Objects c = of-section _ _ c.in-Objects.is (c.length_of-in-Objects.ensures ∙ long-told object_fields object_row _ c.object_row.ensures)

pub returns-in-Timers : goal.returns-in-Timers
returns-in-Timers c = of-section _ _ c.in-Timers.is c.timer_frame.ensures

-- A row of metadata read alone, its values judged or its framing alone: then its position and the private bytes of its variables may have
-- any value.
use Rattle.std.specs.Prelude.{ℕ, Bool, cond}
use Rattle.wire.specs.Formats.{u8, u16}
use Rattle.mapblock.specs.Inventory.{BlockFormat}
use Rattle.mapblock.specs.Data.{Variable, MetadataRow}
use Rattle.mapblock.specs.Layout.{position, variable_by, variable, metadata_row_by}

abbrev pub position_for : Bool → BlockFormat ℕ
position_for values = cond values position u16

unfoldable pub variable_for : Bool → ℕ → BlockFormat Variable
variable_for values v = cond values (variable v) (variable_by u8 v)

unfoldable pub metadata_row_for : Bool → ℕ → BlockFormat MetadataRow
metadata_row_for values v = metadata_row_by (position_for values) (variable_for values v) v

-- The worked sums agree: all that the definitions say of them is computed.
use mathlib.Core.Path.{refl}
use Rattle.wire.specs.Format.{◌⨾◌, iso, items, read_items, run, refine}
use Rattle.wire.specs.Formats.{behind, listed, number}
use Rattle.position.specs.Keys.{between, is_key, join_of, key_of, lowered, moved, split_of}
use Rattle.mapblock.specs.Inventory.{inventory}
use Rattle.block_reader.specs.Light.{zeros}
use Rattle.tally.specs.Tally.{rows_of, tally}
use Rattle.tally.specs.Operations.{merge_of, tallied}
use Rattle.worked_sums.specs.Sums.{AllAgree}

pub all-agree : AllAgree
unfolding join_of key_of split_of is_key between moved lowered zeros inventory merge_of tallied rows_of tally behind listed number items run refine iso ◌⨾◌ read_items
all-agree = refl

-- Where things stand in a block: document 01, 'Reading, looking, writing'. A section is the run of a list's rows without count; the rows stand
-- at the end of their list. A section is told by its start and its length in the caller's block.
use Rattle.std.specs.Prelude.{ℕ, ◌+◌, ◌-◌, cond, [], length}
use Rattle.wire.specs.Format.{encode_items}
use Rattle.mapblock.specs.Data.{Block}
use Rattle.mapblock.specs.Layout.{since, all, name_row, metadata_row, object_row, timer_row, name_mapping, nodes, metadata, early_timers, objects, late_timers}
use Rattle.mapblock.specs.Block.{name_mapping_of, metadata_of, timers_of, front_names_end, lists_at}
use Rattle.wire.specs.Ranges.{range_at}
use Rattle.wire.specs.declared.ranges.Range.{Range}
use Rattle.mapblock.specs.declared.head.Sections.{Sections}
use Rattle.block_reader.specs.declared.scan.Scanned.{Scanned}

-- n bytes of rows that end at a place
abbrev pub range_to : ℕ → ℕ → Range
range_to end n = range_at (end - n) n

module _ (b : Block) where
  abbrev v : ℕ
  v = b.head.version

  -- where each step ends
  abbrev pub nodes_end : ℕ
  nodes_end = front_names_end b + length ((nodes v).encode b.nodes)

  abbrev pub metadata_end : ℕ
  metadata_end = nodes_end + length ((metadata v).encode (metadata_of b))

  abbrev pub early_end : ℕ
  early_end = metadata_end + cond (since 25 v) 0 (length ((early_timers v).encode (timers_of b)))

  abbrev pub objects_end : ℕ
  objects_end = early_end + length (objects.encode b.objects)

  abbrev pub names_end : ℕ
  names_end = objects_end + cond (since 29 v) 0 (length ((name_mapping all).encode (name_mapping_of b)))

  abbrev pub late_end : ℕ
  late_end = names_end + cond (since 25 v) (length ((late_timers v).encode (timers_of b))) 0

  abbrev pub names_range : Range
  names_range = range_to (cond (since 29 v) (front_names_end b) names_end) (length (encode_items (name_row all) [] b.names))

  abbrev pub metadata_range : Range
  metadata_range = range_to metadata_end (length (encode_items (metadata_row v) [] b.metadata))

  abbrev pub objects_range : Range
  objects_range = range_to objects_end (length (encode_items (λ _. object_row) [] b.objects))

  abbrev pub timers_range : Range
  timers_range = range_to (cond (since 25 v) late_end early_end) (length (encode_items timer_row [] b.timers))

  unfoldable pub sections : Sections
  sections = record { names = names_range; metadata = metadata_range; objects = objects_range; timers = timers_range }

  -- the head, where the param lists stand behind their widths, and the sections
  abbrev pub scanned_of : Scanned
  scanned_of = record { head = b.head; lists = lists_at b; sections = sections }

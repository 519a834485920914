-- What a row question tells of a row: its numbers, and where its runs stand, from the row's first byte. Document 01, 'Reading, looking, writing'.
use Rattle.std.specs.Prelude.{ℕ, ◌+◌, cond, [], length}
use Rattle.wire.specs.Format.{encode_items}
use Rattle.mapblock.specs.Data.{NameRow, MetadataRow, ObjectRow, TimerRow}
use Rattle.mapblock.specs.Layout.{since, before, variable}
use Rattle.mapblock.specs.declared.names.NameFields.{NameFields}
use Rattle.mapblock.specs.declared.metadata.MetadataFields.{MetadataFields}
use Rattle.mapblock.specs.declared.objects.ObjectFields.{ObjectFields}
use Rattle.mapblock.specs.declared.timers.TimerFields.{TimerFields}
use Rattle.wire.specs.Ranges.{range_at, no_range}

abbrev pub name_fields : NameRow → NameFields
name_fields r = record { id = r.id; name = range_at 4 (length r.name) }

-- the bytes of a row's variables
abbrev pub variable_bytes : ℕ → MetadataRow → ℕ
variable_bytes v r = length (encode_items (λ _. variable v) [] r.variables)

abbrev pub metadata_fields : ℕ → MetadataRow → MetadataFields
metadata_fields v r = record {
  position = r.position;
  kind = r.kind;
  content = cond (before 23 v) (range_at 6 (length r.content)) no_range;
  variables = length r.variables;
  rows = cond (since 23 v) (range_at 6 (variable_bytes v r)) no_range;
  inventory = cond (since 23 v) (range_at (6 + variable_bytes v r) (length r.inventory)) no_range;
}

abbrev pub object_fields : ObjectRow → ObjectFields
object_fields r = record { kind = r.kind; x = r.x; y = r.y; z = r.z; content = range_at 15 (length r.content) }

abbrev pub timer_fields : TimerRow → TimerFields
timer_fields r = record { position = r.position; timeout = r.timeout; elapsed = r.elapsed }

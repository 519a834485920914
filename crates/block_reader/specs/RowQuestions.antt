-- Rows from the front of bytes: document 01, 'Reading, looking, writing' and 'Order'. The front row is judged alone, so never 5, 6 or 8.
use Rattle.std.specs.Prelude.{ℕ, cond, List, [], ◌∷◌, eqb, length}
use Rattle.wire.specs.Read.{Read, map_read}
use Rattle.wire.specs.Answer.{Answer, plain, ends_inside, version_outside, position_above, no_such, private_byte_differs}
use Rattle.mapblock.specs.Layout.{all, is_version, name_row, metadata_row, object_row, timer_row}
use Rattle.mapblock.specs.Numbers.{answer_of}
use Rattle.mapblock.specs.Rows.{name_fields, metadata_fields, object_fields, timer_fields}
use Rattle.mapblock.specs.declared.fault.Fault.{Fault}
use Rattle.mapblock.specs.declared.names.NameFields.{NameFields}
use Rattle.mapblock.specs.declared.metadata.MetadataFields.{MetadataFields}
use Rattle.mapblock.specs.declared.objects.ObjectFields.{ObjectFields}
use Rattle.mapblock.specs.declared.timers.TimerFields.{TimerFields}

-- 16 where there are no bytes, then what the reader says of the row
abbrev pub front_row : {A : Type 0} → List ℕ → Read Fault A → Answer (A × ℕ)
front_row s r = cond (eqb (length s) 0) (plain no_such) (answer_of r)

abbrev pub name_row_of : List ℕ → Answer (NameFields × ℕ)
name_row_of s = front_row s (map_read name_fields ((name_row all []).read s))

-- 2 comes first
abbrev pub metadata_row_of : ℕ → List ℕ → Answer (MetadataFields × ℕ)
metadata_row_of v s = cond (is_version v) (front_row s (map_read (metadata_fields v) ((metadata_row v []).read s))) (plain version_outside)

abbrev pub object_row_of : List ℕ → Answer (ObjectFields × ℕ)
object_row_of s = front_row s (map_read object_fields (object_row.read s))

abbrev pub timer_row_of : List ℕ → Answer (TimerFields × ℕ)
timer_row_of s = front_row s (map_read timer_fields ((timer_row []).read s))

-- ---- the numbers that each may be refused with: 2 for metadata alone, 16, and those of the reader that a row judged alone can give
abbrev pub name_row_numbers : List ℕ
name_row_numbers = no_such ∷ ends_inside ∷ []

abbrev pub metadata_row_numbers : List ℕ
metadata_row_numbers = version_outside ∷ no_such ∷ ends_inside ∷ position_above ∷ private_byte_differs ∷ []

abbrev pub object_row_numbers : List ℕ
object_row_numbers = no_such ∷ ends_inside ∷ []

abbrev pub timer_row_numbers : List ℕ
timer_row_numbers = no_such ∷ ends_inside ∷ position_above ∷ []

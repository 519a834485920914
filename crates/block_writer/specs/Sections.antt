-- The four sections, and how the code counts their rows: document 01, 'Reading, looking, writing', "counts are worked out from the rows".
use Rattle.std.specs.Prelude.{ℕ, ◌≡◌, List, length}
use Rattle.std.proofs.Math.Option.{Option, some, none, map}
use Rattle.wire.specs.Read.{Read, done, refused}
use Rattle.mapblock.specs.Inventory.{BlockFormat}
use Rattle.mapblock.specs.Data.{NameRow, MetadataRow, ObjectRow, TimerRow, Block}
use Rattle.mapblock.specs.Layout.{object_row}
use Rattle.mapblock.specs.declared.fault.Fault.{Fault}
use Rattle.block_writer.specs.Frames.{name_frame, metadata_frame, timer_frame, section_rows}
use Rattle.block_writer.specs.BlockParts.{given}
use Rattle.block_writer.specs.declared.frames.SectionKind.{SectionKind}
use Rattle.block_writer.specs.declared.frames.SectionKind.TheVariants as section
use Rattle.block_writer.specs.declared.counts.RowCounts.{RowCounts}

abbrev pub RowOf : SectionKind → Type 0
RowOf section.Names = NameRow
RowOf section.Metadata = MetadataRow
RowOf section.Objects = ObjectRow
RowOf section.Timers = TimerRow

abbrev pub frame_of : (k : SectionKind) → ℕ → BlockFormat (RowOf k)
frame_of section.Names v = name_frame
frame_of section.Metadata v = metadata_frame v
frame_of section.Objects v = object_row
frame_of section.Timers v = timer_frame

-- the length of what was read
abbrev pub length_read : {A : Type 0} → Read Fault A → Option ℕ
length_read (done a n) = some n
length_read (refused e p) = none

-- ---- the rows of each section
-- of a block
abbrev pub counts_of : Block → RowCounts
counts_of b = record { names = length b.names; metadata = length b.metadata; objects = length b.objects; timers = length b.timers }

abbrev pub counts_in : ℕ → List ℕ → List ℕ → List ℕ → List ℕ → Option RowCounts
counts_in v names metadata objects timers =
    given (map length (section_rows name_frame names)) λ a.
    given (map length (section_rows (metadata_frame v) metadata)) λ b.
    given (map length (section_rows object_row objects)) λ c.
    given (map length (section_rows timer_frame timers)) λ d.
    some (record { names = a; metadata = b; objects = c; timers = d })

-- bytes that are so many rows
pub record Rows {A : Type 0} (f : BlockFormat A) (s : List ℕ) (count : ℕ) (l : List A) : Type 0 where
  pub are : section_rows f s ≡ some l
  pub many : length l ≡ count

-- the rows that the bytes of the four sections are, so many of each
pub record SectionRows (version : ℕ) (name_bytes metadata_bytes object_bytes timer_bytes : List ℕ) (counts : RowCounts)
    (l : List NameRow) (m : List MetadataRow) (o : List ObjectRow) (k : List TimerRow) : Type 0 where
  pub names : Rows name_frame name_bytes counts.names l
  pub metadata : Rows (metadata_frame version) metadata_bytes counts.metadata m
  pub objects : Rows object_row object_bytes counts.objects o
  pub timers : Rows timer_frame timer_bytes counts.timers k

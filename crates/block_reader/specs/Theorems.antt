-- What the definitions promise together, for document 01's 'Reading, looking, writing' and 'What may not slip through'. Proved in proofs/:
-- `ValidIsOk` in ValidOk.antt, `TwoLess`, `BothForms` and `FormTold` in BothForms.antt, `SectionsAreRows` and `Param0There` in
-- SectionsThere.antt, `VeryBytes` in NodeNames.antt, `RunsAreThere` in RunsThere.antt, `WalkGivesRows` in Walk.antt, `BlockNumbers` and
-- `RowNumbers` in AnswerNumbers.antt, `FirstEndLine` in EndLines.antt, the others in Taken.antt.
use Rattle.std.specs.Prelude.{ℕ, zero, suc, ◌+◌, ◌<◌, ◌≤◌, ◌≡◌, ◌↔◌, Bool, true, false, ◌&&◌, List, [], map, eqb, length, get_or, drop}
use Rattle.std.proofs.Math.Option.{some, none}
use Rattle.wire.specs.Bytes.{Bytes}
use Rattle.wire.specs.Marks.{starts}
use Rattle.wire.specs.Read.{Read, done, refused}
use Rattle.wire.specs.Format.{encode_items}
use Rattle.wire.specs.Formats.{number}
use Rattle.wire.specs.Answer.{Answer, RefusedWith}
use Rattle.wire.specs.Walk.{walk, GivesRows, rows_behind}
use Rattle.mapblock.specs.Data.{NameRow, MetadataRow, ObjectRow, Block}
use Rattle.mapblock.specs.Inventory.{BlockFormat, end_line, through}
use Rattle.mapblock.specs.Layout.{all, width, list_counted, list_zero, name_row, variable, metadata_row, object_row, timer_row}
use Rattle.mapblock.specs.Block.{block, first_unmapped, param0_at, verdict}
use Rattle.mapblock.specs.Numbers.{block_numbers}
use Rattle.mapblock.specs.Valid.{Valid}
use Rattle.wire.specs.Ranges.{range_told, bytes_in}
use Rattle.mapblock.specs.Rows.{name_fields, metadata_fields, object_fields, timer_fields}
use Rattle.block_reader.specs.Sections.{sections}
use Rattle.block_reader.specs.Questions.{block_of, name_at, name_range}
use Rattle.block_reader.specs.RowQuestions.{name_row_of, metadata_row_of, object_row_of, timer_row_of, name_row_numbers, metadata_row_numbers, object_row_numbers, timer_row_numbers}
use Rattle.mapblock.specs.declared.fault.Fault.{Fault}
use Rattle.mapblock.specs.declared.fault.Fault.TheVariants as fault
use Rattle.wire.specs.declared.ranges.Range.{Range}
use Rattle.mapblock.specs.declared.names.NameFields.{NameFields}
use Rattle.mapblock.specs.declared.metadata.MetadataFields.{MetadataFields}
use Rattle.mapblock.specs.declared.objects.ObjectFields.{ObjectFields}

-- ---- well formed
-- The valid blocks are those that have bytes in the layout and no id unmapped.
abbrev pub ValidIsOk : Type 0
ValidIsOk = (b : Block) → Valid b ↔ ((block all).Ok b × (first_unmapped all b ≡ none))

-- ---- taken: demand 2's first sentence
-- what finds a block in bytes, or a fault and its place
abbrev pub Reader : Type 0
Reader = List ℕ → Read Fault Block

-- The reader takes bytes, with the block b, exactly when b is valid and they are b's bytes; and it takes them to their end.
abbrev pub TakenBy : Reader → Type 0
TakenBy r = (s : List ℕ) (b : Block) (n : ℕ) → Bytes s → (r s ≡ done b n) ↔ (Valid b × (s ≡ (block all).encode b) × (n ≡ length s))

-- "An unpacked block of versions 22 to 29 is taken exactly when it is well formed": by the verdict, which the contracts cite.
abbrev pub Taken : Type 0
Taken = TakenBy (verdict all)

-- "what was read writes back to the same bytes"
abbrev pub WritesBack : Type 0
WritesBack = (s : List ℕ) (b : Block) (n : ℕ) → Bytes s → verdict all s ≡ done b n → (block all).encode b ≡ s

-- "what was written reads back to the same parts"
abbrev pub ReadsBack : Type 0
ReadsBack = (b : Block) → Valid b → verdict all ((block all).encode b) ≡ done b (length ((block all).encode b))

-- ---- what may not slip through: document 01, the section of that name
-- a reader that refuses everything
abbrev pub RefusesAll : Reader → Type 0
RefusesAll r = (s : List ℕ) → Bytes s → (e : Fault) × (p : ℕ) × (r s ≡ refused e p)

-- a reader that gives one fixed block for all that it takes
abbrev pub GivesOne : Reader → Type 0
GivesOne r = (c : Block) × ((s : List ℕ) (b : Block) (n : ℕ) → Bytes s → r s ≡ done b n → b ≡ c)

-- a reader that takes two blocks of a version which were not saved at the same second
pub record TakesTwo (v : ℕ) (r : Reader) : Type 0 where
  pub s₁ : List ℕ
  pub s₂ : List ℕ
  pub b₁ : Block
  pub b₂ : Block
  pub bytes₁ : Bytes s₁
  pub bytes₂ : Bytes s₂
  pub taken₁ : r s₁ ≡ done b₁ (length s₁)
  pub taken₂ : r s₂ ≡ done b₂ (length s₂)
  pub version₁ : b₁.head.version ≡ v
  pub version₂ : b₂.head.version ≡ v
  pub differ : b₁.head.timestamp ≡ b₂.head.timestamp → ⊥

-- A reader that `TakenBy` holds of is neither of the first two; it takes blocks of every version, and not one alone.
abbrev pub ShutOut : Type 0
ShutOut = (r : Reader) → TakenBy r → (RefusesAll r → ⊥) × (GivesOne r → ⊥) × ((v : ℕ) → 22 ≤ v → v ≤ 29 → TakesTwo v r)

-- ---- the two forms of a metadata list of none: document 02, item 3
-- a block with another form
abbrev pub with_form : ℕ → Block → Block
with_form form b = record {
  head = record {
    version = b.head.version;
    flags = b.head.flags;
    lighting = b.head.lighting;
    timestamp = b.head.timestamp;
    timer = b.head.timer;
    form = form;
  };
  names = b.names;
  nodes = b.nodes;
  metadata = b.metadata;
  objects = b.objects;
  timers = b.timers;
}

-- a valid block that may have either form
pub record EitherForm (b : Block) : Type 0 where
  pub valid : Valid b
  pub from-23 : 23 ≤ b.head.version
  pub none : b.metadata ≡ []

-- "two bytes less": the single 0 has no count
abbrev pub TwoLess : Type 0
TwoLess = (b : Block) → EitherForm b → length ((block all).encode (with_form list_counted b)) ≡ 2 + length ((block all).encode (with_form list_zero b))

-- "A counted list of none stays good": the bytes of both forms are taken, and each with its own form.
abbrev pub BothForms : Type 0
BothForms = (r : Reader) → TakenBy r → (b : Block) → EitherForm b → (form : ℕ) → form ≤ 1
    → r ((block all).encode (with_form form b)) ≡ done (with_form form b) (length ((block all).encode (with_form form b)))

-- a reader that tells one form for all blocks of a version that it takes
abbrev pub TellsOneForm : ℕ → Reader → Type 0
TellsOneForm v r = (form : ℕ) × ((s : List ℕ) (b : Block) (n : ℕ) → Bytes s → r s ≡ done b n → b.head.version ≡ v → b.head.form ≡ form)

-- No reader that `TakenBy` holds of is such a one, in any version from 23 on.
abbrev pub FormTold : Type 0
FormTold = (r : Reader) → TakenBy r → (v : ℕ) → 23 ≤ v → v ≤ 29 → TellsOneForm v r → ⊥

-- ---- inventories: document 01, 'Block layout'
-- "A line starts at the inventory's first byte or after a newline."
abbrev pub line_start : List ℕ → ℕ → Bool
line_start l zero = true
line_start l (suc i) = eqb (get_or l i 0) 10

-- a line starts there, and is exactly `EndInventory` with its newline
abbrev pub end_line_at : List ℕ → ℕ → Bool
end_line_at l i = line_start l i && starts end_line (drop i l)

-- "An inventory runs through the first line that is exactly `EndInventory` with its newline": it stands at k, and at no place before.
abbrev pub FirstEndLine : Type 0
FirstEndLine = (l : List ℕ) (n : ℕ) → (through true l ≡ some n) ↔ ((k : ℕ) × (n ≡ k + 13) × (end_line_at l k ≡ true) × ((i : ℕ) → i < k → end_line_at l i ≡ false))

-- ---- ranges of the caller's block: document 01, 'Reading, looking, writing'
-- the range p lies in s, and holds the bytes r
pub record Holds (s : List ℕ) (p : Range) (r : List ℕ) : Type 0 where
  pub inside : p.start + p.length ≤ length s
  pub bytes : bytes_in s p ≡ r

-- each section of the block b holds the bytes of its rows
pub record RowsIn (s : List ℕ) (b : Block) : Type 0 where
  pub names : Holds s (sections b).names (encode_items (name_row all) [] b.names)
  pub metadata : Holds s (sections b).metadata (encode_items (metadata_row b.head.version) [] b.metadata)
  pub objects : Holds s (sections b).objects (encode_items (λ _. object_row) [] b.objects)
  pub timers : Holds s (sections b).timers (encode_items timer_row [] b.timers)

-- "A section is the run of its rows without count, and comes back as a part of the caller's block."
abbrev pub SectionsAreRows : Type 0
SectionsAreRows = (s : List ℕ) (b : Block) (n : ℕ) → Bytes s → verdict all s ≡ done b n → RowsIn s b

-- "The name of a node comes back as the very bytes in the caller's block"
abbrev pub VeryBytes : Type 0
VeryBytes = (s : List ℕ) (b : Block) (n : ℕ) → Bytes s → verdict all s ≡ done b n → (i : ℕ) → i ≤ 4095 → Holds s (name_range b i) (name_at b i)

-- ---- rows: document 01, 'Reading, looking, writing'
-- the runs of a row of metadata; in version 22 its variables and its inventory are empty, from 23 its content
pub record MetadataRunsIn (v : ℕ) (s : List ℕ) (r : MetadataRow) : Type 0 where
  pub content : Holds s (metadata_fields v r).content r.content
  pub variables : Holds s (metadata_fields v r).rows (encode_items (λ _. variable v) [] r.variables)
  pub inventory : Holds s (metadata_fields v r).inventory r.inventory

-- The runs that a row question tells hold the row's bytes.
pub record RunsAreThere : Type 0 where
  pub name : (s : List ℕ) (r : NameRow) (n : ℕ) → Bytes s → (name_row all []).read s ≡ done r n → Holds s (name_fields r).name r.name
  pub metadata : (v : ℕ) (s : List ℕ) (r : MetadataRow) (n : ℕ) → Bytes s → (metadata_row v []).read s ≡ done r n → MetadataRunsIn v s r
  pub object : (s : List ℕ) (r : ObjectRow) (n : ℕ) → Bytes s → object_row.read s ≡ done r n → Holds s (object_fields r).content r.content

-- ---- rows from the front: document 01, 'Reading, looking, writing'
-- what a row question tells of a row: its fields and its length
abbrev pub row_shown : {A B : Type 0} → BlockFormat A → (A → B) → A → B × ℕ
row_shown f fields r = (fields r, length (f.encode r))

-- The run that comes back of each row, where bytes are walked by their row question and what remains, is these bytes.
abbrev pub RunsWalked : {A B : Type 0} → (List ℕ → Answer (B × ℕ)) → (B → Range) → (A → List ℕ) → List ℕ → List A → Type 0
RunsWalked {B = B} ask run bytes s rows = walk (λ p. rows_behind p (ask p)) (λ p. bytes_in p (range_told (λ (x : B × ℕ). run x.0) (ask p))) (length rows) s ≡ map bytes rows

-- rows of names, of metadata in the version v, of static objects
pub record NamesWalked (s : List ℕ) (l : List NameRow) : Type 0 where
  pub rows : GivesRows name_row_of (row_shown (name_row all []) name_fields) s l
  pub name : RunsWalked name_row_of (λ (f : NameFields). f.name) (λ (r : NameRow). r.name) s l

pub record MetadataWalked (v : ℕ) (s : List ℕ) (l : List MetadataRow) : Type 0 where
  pub rows : GivesRows (metadata_row_of v) (row_shown (metadata_row v []) (metadata_fields v)) s l
  pub content : RunsWalked (metadata_row_of v) (λ (f : MetadataFields). f.content) (λ (r : MetadataRow). r.content) s l
  pub variables : RunsWalked (metadata_row_of v) (λ (f : MetadataFields). f.rows) (λ (r : MetadataRow). encode_items (λ _. variable v) [] r.variables) s l
  pub inventory : RunsWalked (metadata_row_of v) (λ (f : MetadataFields). f.inventory) (λ (r : MetadataRow). r.inventory) s l

pub record ObjectsWalked (s : List ℕ) (l : List ObjectRow) : Type 0 where
  pub rows : GivesRows object_row_of (row_shown object_row object_fields) s l
  pub content : RunsWalked object_row_of (λ (f : ObjectFields). f.content) (λ (r : ObjectRow). r.content) s l

-- each section of the block b; a row of timers has no run
pub record SectionsWalked (s : List ℕ) (b : Block) : Type 0 where
  pub names : NamesWalked (bytes_in s (sections b).names) b.names
  pub metadata : MetadataWalked b.head.version (bytes_in s (sections b).metadata) b.metadata
  pub objects : ObjectsWalked (bytes_in s (sections b).objects) b.objects
  pub timers : GivesRows timer_row_of (row_shown (timer_row []) timer_fields) (bytes_in s (sections b).timers) b.timers

-- "Rows are taken from the front, and the rows behind a row are handed on as what remains": of every block that is taken, each section so gives
-- the block's rows, and 16 where they end.
abbrev pub WalkGivesRows : Type 0
WalkGivesRows = (s : List ℕ) (b : Block) (n : ℕ) → Bytes s → verdict all s ≡ done b n → SectionsWalked s b

-- ---- the numbers of a block: document 01, 'The numbers a call comes back with'
-- A block is refused with the block's numbers alone, and so never with 3: document 02, item 2.
abbrev pub BlockNumbers : Type 0
BlockNumbers = (s : List ℕ) → RefusedWith block_numbers (block_of s)

-- ---- a row judged alone: document 01, 'Reading, looking, writing'
-- "Row question: 2, then 16 for an empty part, then the reader's 1, 3 or 4", where item 2 of document 02 has 34 for 3: no row question gives
-- another number. "it judges the front row alone (so never 5, 6 or 8)"
pub record RowNumbers : Type 0 where
  pub name : (s : List ℕ) → RefusedWith name_row_numbers (name_row_of s)
  pub metadata : (v : ℕ) (s : List ℕ) → RefusedWith metadata_row_numbers (metadata_row_of v s)
  pub object : (s : List ℕ) → RefusedWith object_row_numbers (object_row_of s)
  pub timer : (s : List ℕ) → RefusedWith timer_row_numbers (timer_row_of s)

-- ---- number 8's place: document 01, 'The numbers a call comes back with'
-- "place of the first such node's param0": where the verdict puts it, the node's param0 is read.
abbrev pub Param0There : Type 0
Param0There = (s : List ℕ) (b : Block) (n : ℕ) → Bytes s → (block all).read s ≡ done b n → (i : ℕ) → i < 4096
    → (number {ends = fault.Ends} (width b.head.version)).read (drop (param0_at b i) s) ≡ done (get_or b.nodes.param0 i 0) (width b.head.version)

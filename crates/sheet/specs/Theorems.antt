-- When a sheet is taken: document 01, 'Tallies, lots, spans, sheets' and 'Order'. proofs/SheetTaken.antt proves it.
use Rattle.std.specs.Prelude.{ℕ, ◌≡◌, ◌↔◌, List, [], ◌∷◌, ◌++◌}
use Rattle.wire.specs.Bytes.{Bytes}
use Rattle.wire.specs.Format.{encode_items}
use Rattle.wire.specs.Answer.{good}
use Rattle.position.specs.Keys.{split_of}
use Rattle.mapblock.specs.Layout.{all}
use Rattle.mapblock.specs.Block.{block}
use Rattle.mapblock.specs.Valid.{Valid}
use Rattle.sheet.specs.Placed.{Placed}
use Rattle.sheet.specs.Sheet.{SheetRecord, frame, sheet_head, sheet, sheet_of}

-- ---- sheets
-- a record that is taken: its key is that of the place, and its bytes are those of the block, which is well formed
pub record RecordIs (r : SheetRecord) (x : Placed) : Type 0 where
  pub key : split_of r.key ≡ good x.at
  pub valid : Valid x.block
  pub bytes : r.block ≡ (block all).encode x.block

abbrev pub RecordsAre : List SheetRecord → List Placed → Type 0
RecordsAre [] [] = Unit {0}
RecordsAre [] (x ∷ l) = ⊥
RecordsAre (r ∷ rs) [] = ⊥
RecordsAre (r ∷ rs) (x ∷ l) = RecordIs r x × RecordsAre rs l

-- A sheet is taken, with these blocks, exactly when it is the bytes of records whose keys are valid and rise, and which are taken.
abbrev pub SheetTaken : Type 0
SheetTaken = (s : List ℕ) (l : List Placed) → Bytes s → (sheet_of s ≡ good l) ↔ ((rs : List SheetRecord) × sheet.Ok rs × (s ≡ sheet.encode rs) × RecordsAre rs l)

-- ---- sheets that are framed
-- a sheet that states n records: these records, each framed, and then these bytes
abbrev pub sheet_bytes : ℕ → List SheetRecord → List ℕ → List ℕ
sheet_bytes n rs rest = sheet_head.encode n ++ (encode_items (λ _. frame) [] rs ++ rest)

abbrev pub Framed : List SheetRecord → Type 0
Framed [] = Unit {0}
Framed (r ∷ rs) = frame.Ok r × Framed rs

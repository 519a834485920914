-- What the program sheetcount makes of its input: document 01, 'Program'.
use Rattle.std.specs.Prelude.{ℕ, zero, suc, ◌^◌, ◌<◌, ◌≤◌, ◌≡◌, cond, List, [], ◌∷◌, ◌++◌, eqb, leb, ℤ, length, drop}
use Rattle.wire.specs.Bytes.{Bytes}
use Rattle.wire.specs.Read.{done}
use Rattle.wire.specs.Formats.{◌▹◌, u32, s64}
use Rattle.wire.specs.Answer.{Answer, good, refusal, no_room, sheet_malformed, then_answer}
use Rattle.position.specs.Lots.{world}
use Rattle.position.specs.Spans.{all_time}
use Rattle.position.specs.declared.part.Part.{Part}
use Rattle.meter.specs.Counting.{by_one}
use Rattle.sheet.specs.Sheet.{SheetForm, SheetRecord, frame, sheet_head, framed}
use Rattle.meter.specs.SheetTally.{tally_sheet_of}
use Rattle.meter.specs.Streaming.{State, no_records, steps_of, take_of, finish_of}
use Rattle.sheet.specs.Theorems.{sheet_bytes, Framed}

-- "uses the whole world and all time, and holds a record's block to 49,152 bytes and the tally to 8,192"
abbrev pub everything : Part
everything = record { lot = world; span = all_time }

abbrev pub max_block_length : ℕ
max_block_length = 49_152

abbrev pub max_tally_length : ℕ
max_tally_length = 8_192

-- ---- the length of a block, as soon as it is read
-- a record's first twelve bytes: its key and the length of its block
unfoldable pub record_head : SheetForm (ℤ × ℕ)
record_head = s64 ▹ u32

-- The length of the i-th record's block: 15 where the twelve bytes are not there, 11 for more than 49,152.
unfoldable pub block_length_of : ℕ → List ℕ → Answer ℕ
block_length_of i s = framed i (record_head.read s) λ h n. cond (leb h.1 max_block_length) (good h.1) (refusal no_room i 0)

-- A record at the front of some bytes, with how many of them it takes: its length, 15 or 11, and then its framing, its key and its block.
unfoldable pub next_of : State by_one → List ℕ → Answer (State by_one × ℕ)
next_of w s = then_answer (block_length_of w.records s) λ _. take_of by_one everything w s

-- ---- the whole input
-- So many records from a state on. Then no byte more, 15; then the tally's room, 11, and its rows, 14.
unfoldable pub counted_from : ℕ → State by_one → List ℕ → Answer (List ℕ)
counted_from zero w s = cond (eqb (length s) 0) (finish_of by_one max_tally_length w) (refusal sheet_malformed w.records 0)
counted_from (suc k) w s = then_answer (next_of w s) λ x. counted_from k x.0 (drop x.1 s)

-- the tally that is printed, or the refusal
unfoldable pub sheetcount_of : List ℕ → Answer (List ℕ)
sheetcount_of s = framed 0 (sheet_head.read s) λ n k. counted_from n (no_records by_one) (drop k s)

-- ---- what holds of it
-- of so many records in these bytes none states a longer block
abbrev pub AllWithin : ℕ → List ℕ → Type 0
AllWithin zero s = Unit {0}
AllWithin (suc k) s =
    ((h : ℤ × ℕ) (m : ℕ) → record_head.read s ≡ done h m → h.1 ≤ max_block_length)
    × ((r : SheetRecord) (n : ℕ) → frame.read s ≡ done r n → AllWithin k (drop n s))

abbrev pub Within : List ℕ → Type 0
Within s = (n k : ℕ) → sheet_head.read s ≡ done n k → AllWithin n (drop k s)

abbrev pub AllShort : List SheetRecord → Type 0
AllShort [] = Unit {0}
AllShort (r ∷ rs) = (length r.block ≤ max_block_length) × AllShort rs

pub record Sheetcount : Type 0 where
  -- where no block is longer it is the tally of the sheet
  pub within : (s : List ℕ) → Bytes s → Within s → sheetcount_of s ≡ tally_sheet_of by_one s everything max_tally_length max_tally_length
  -- a tally that is printed is that of the sheet
  pub tallied : (s t : List ℕ) → Bytes s → sheetcount_of s ≡ good t → tally_sheet_of by_one s everything max_tally_length max_tally_length ≡ good t
  -- A longer block is 11 with its record's number, whatever its key is and whatever follows its length, unless a record before it is refused.
  pub longer : (n : ℕ) (rs : List SheetRecord) (h : ℤ × ℕ) (rest : List ℕ) → n < 256 ^ 4 → length rs < n → Framed rs → AllShort rs → record_head.Ok h → max_block_length < h.1
      → sheetcount_of (sheet_bytes n rs (record_head.encode h ++ rest)) ≡ then_answer (steps_of by_one everything (no_records by_one) rs) (λ v. refusal no_room v.records 0)

-- Sheets: document 01, 'Tallies, lots, spans, sheets' and 'Order'.
use Rattle.std.specs.Prelude.{ℕ, zero, suc, refl, Bool, true, cond, List, [], ◌∷◌, eqb, ℤ, length, drop}
use Rattle.std.proofs.Math.Option.{Option, some, none}
use Rattle.std.specs.Int.Signed.{lt_z}
use Rattle.wire.specs.Read.{Read, done, refused}
use Rattle.wire.specs.Format.{Format, refine}
use Rattle.wire.specs.Formats.{◌▹◌, s64, prefixed, listed, headed, head, into, Shape}
use Rattle.wire.specs.Answer.{Answer, good, refusal, plain, map_answer, sheet_malformed, then_answer}
use Rattle.position.specs.Keys.{is_key, split_of}
use Rattle.mapblock.specs.Layout.{all}
use Rattle.mapblock.specs.Block.{verdict}
use Rattle.block_reader.specs.Questions.{block_answer}
use Rattle.sheet.specs.Placed.{Placed, placed}

-- ---- the bytes
-- The one fault of a sheet's own bytes: 15 has no offset.
pub data Misframed : Type 0 where
  misframed : Misframed

abbrev pub SheetForm : Type 0 → Type 1
SheetForm A = Format Misframed misframed A

-- document 01's record: a key and a block
pub record SheetRecord : Type 0 where
  pub key : ℤ
  pub block : List ℕ

abbrev pub record_shape : Shape (ℤ × List ℕ) SheetRecord
record_shape = record {
  make = λ (x : ℤ × List ℕ). record { key = x.0; block = x.1 };
  parts = λ (r : SheetRecord). (r.key, r.block);
  there = λ b. refl;
  back = λ a. refl;
}

-- a record's framing, its key and its block not judged
unfoldable pub frame : SheetForm SheetRecord
frame = into record_shape
    (s64  -- key
    ▹ prefixed 4)  -- block

abbrev pub sheet_mark : List ℕ  -- WSH
sheet_mark = 87 ∷ 83 ∷ 72 ∷ []

-- the head, which tells the number of records
abbrev pub sheet_head : SheetForm ℕ
sheet_head = head sheet_mark

-- a key after the last one: keys rise strictly, as numbers
abbrev pub rises : Option ℤ → ℤ → Bool
rises none k = true
rises (some last) k = lt_z last k

-- of the records before, the last one first
abbrev pub last_key : List SheetRecord → Option ℤ
last_key [] = none
last_key (r ∷ seen) = some r.key

-- a sheet whose keys are valid and rise; its blocks are not judged
unfoldable pub sheet : SheetForm (List SheetRecord)
sheet = headed sheet_mark 1 misframed
    (listed 4 λ seen. refine (λ (r : SheetRecord). rises (last_key seen) r.key) misframed
    (refine (λ (r : SheetRecord). is_key r.key) misframed frame))

-- ---- the verdict
-- a refusal in a record
abbrev pub in_record : {A : Type 0} → ℕ → Answer A → Answer A
in_record i (good a) = good a
in_record i (refusal n r o) = refusal n i o

-- what follows bytes that are framed, or 15 in a record
abbrev pub framed : {A B : Type 0} → ℕ → Read Misframed A → (A → ℕ → Answer B) → Answer B
framed i (done a n) f = f a n
framed i (refused e p) f = refusal sheet_malformed i 0

-- a record judged against the last key, where its names may have the ids that are free: key 9, rising 15, then the block's numbers
unfoldable pub judged_in : (ℕ → Bool) → Option ℤ → SheetRecord → Answer Placed
judged_in free last r = then_answer (split_of r.key) λ c. cond (rises last r.key) (map_answer (placed c) (block_answer (verdict free r.block))) (plain sheet_malformed)

-- document 01's verdict on it: before its names all ids are free
abbrev pub judge_record : Option ℤ → SheetRecord → Answer Placed
judge_record = judged_in all

-- So many records, the first of which is the i-th, after the last key: of each the framing, 15, and what it is judged. Then no byte more, 15.
unfoldable pub records_from : ℕ → ℕ → Option ℤ → List ℕ → Answer (List Placed)
records_from zero i last s = cond (eqb (length s) 0) (good []) (refusal sheet_malformed i 0)
records_from (suc k) i last s =
    framed i (frame.read s) λ r n.
    then_answer (in_record i (judge_record last r)) λ x.
    map_answer (λ (l : List Placed). x ∷ l) (records_from k (suc i) (some r.key) (drop n s))

-- the blocks of a sheet: header 15, as record 0, and then its records
unfoldable pub sheet_of : List ℕ → Answer (List Placed)
sheet_of s = framed 0 (sheet_head.read s) λ n k. records_from n 0 none (drop k s)

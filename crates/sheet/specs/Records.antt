-- A sheet's records, as the code reads and judges them.
use Rattle.std.specs.Prelude.{ℕ, ◌+◌, ◌≡◌, List, ℤ, take, drop}
use Rattle.std.proofs.Math.Option.{Option, some, none}
use Rattle.wire.specs.Read.{done}
use Rattle.wire.specs.Answer.{Answer, good, refusal, out_of_range, sheet_malformed}
use Rattle.position.specs.declared.key.Coordinates.{Coordinates}
use Rattle.mapblock.specs.Data.{Block}
use Rattle.mapblock.specs.Layout.{all}
use Rattle.mapblock.specs.Block.{verdict}
use Rattle.mapblock.specs.Numbers.{refusal_number}
use Rattle.block_reader.specs.Sections.{scanned_of}
use Rattle.block_reader.specs.declared.scan.Scanned.{Scanned}
use Rattle.sheet.specs.Placed.{Placed}
use Rattle.sheet.specs.Sheet.{SheetRecord}
use Rattle.sheet.specs.declared.records.RecordFault.{RecordFault}
use Rattle.sheet.specs.declared.records.RecordFault.TheVariants as faults
use Rattle.std.specs.Prelude.{Some, None, Ok, Err, Result, Option as Optional}

-- ---- the framing: of what is not framed no place is told
abbrev pub record_of : ℤ → List ℕ → SheetRecord
record_of key block = record { key = key; block = block }

-- the record at the front of s, and where it ends: its block stands behind the eight bytes of the key and the four of the length
abbrev pub told_frame : List ℕ → Optional (ℤ × ℕ) → Option (SheetRecord × ℕ)
told_frame s (Some (key, n)) = some (record_of key (take n (drop 12 s)), 12 + n)
told_frame s None = none

-- ---- the verdict on a record
abbrev pub fault_number : RecordFault → ℕ
fault_number faults.OutOfRange = out_of_range
fault_number faults.NotRising = sheet_malformed
fault_number (faults.Block w) = refusal_number w.fault

-- 0 but for the block's numbers
abbrev pub fault_offset : RecordFault → ℕ
fault_offset faults.OutOfRange = 0
fault_offset faults.NotRising = 0
fault_offset (faults.Block w) = w.offset

-- a fault of the i-th record
abbrev pub faulty : {A : Type 0} → RecordFault → ℕ → Answer A
faulty f i = refusal (fault_number f) i (fault_offset f)

-- what the code keeps of a record that is taken: where its block stands, and what the scan found in it
abbrev pub scanned_at : Placed → Coordinates × Scanned
scanned_at x = (x.at, scanned_of x.block)

-- the record is told as 0
abbrev pub told_record : Result (Coordinates × Scanned) RecordFault → Answer (Coordinates × Scanned)
told_record (Ok (at, w)) = good (at, w)
told_record (Err f) = faulty f 0

-- the scan found the block b in s
pub record ScannedAs (s : List ℕ) (w : Scanned) (b : Block) : Type 0 where
  pub end : ℕ
  pub taken : verdict all s ≡ done b end
  pub shows : scanned_of b ≡ w

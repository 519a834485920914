-- The numbers that the questions of a block and of a row give.
use Prim.Native.Nat.{ℕ}
use mathlib.Core.Path.{refl, ◌≡◌}
use mathlib.Core.List.{List, []}
use mathlib.Core.Bool.{Bool, true, cond}
use lib.Dec.{eqb}
use lib.ListN.{length}
use Rattle.wire.specs.Read.{Read, done, refused, map_read}
use Rattle.wire.proofs.Answers.{with-cond}
use Rattle.wire.specs.Answer.{plain, RefusedWith, is_one_of, version_outside, no_such}
use Rattle.mapblock.specs.Inventory.{BlockFormat}
use Rattle.mapblock.specs.Data.{MetadataRow, TimerRow, Block}
use Rattle.mapblock.specs.Layout.{all, is_version, unused, name_row, metadata_row, timer_row}
use Rattle.mapblock.specs.Block.{verdict}
use Rattle.mapblock.specs.Numbers.{refusal_number, block_numbers, answer_of}
use Rattle.mapblock.specs.Rows.{name_fields, metadata_fields, object_fields, timer_fields}
use Rattle.block_reader.specs.RowQuestions.{front_row, name_row_numbers, metadata_row_numbers, object_row_numbers, timer_row_numbers}
use Rattle.block_reader.specs.Questions.{block_answer, block_of}
use Rattle.block_reader.specs.Theorems.{RowNumbers, BlockNumbers}
use Rattle.mapblock.specs.declared.fault.Fault.{Fault}
use Rattle.mapblock.specs.declared.fault.Fault.TheVariants as fault
use Rattle.mapblock.proofs.FaultNumbers.{fault-number}
use Rattle.block_reader.proofs.GivenFaults.{ReadRefusedWith, FormatRefusedWith, by_map, gives-any, gives-number, gives-first-position, gives-name-row, gives-metadata-row, gives-object-row, gives-timer-row}

module _ {P : Fault → Type 0} (ends : P fault.Ends) where
  name-alone : FormatRefusedWith P (name_row all [])
  unfolding name_row unused
  name-alone = gives-name-row ends (gives-any fault.IdTwice (gives-number ends 2))

  metadata-alone : (v : ℕ) → P fault.PrivateByte → P fault.PositionAbove → FormatRefusedWith P (metadata_row v [])
  unfolding metadata_row
  metadata-alone v own above = gives-metadata-row ends v own (gives-first-position ends (λ (r : MetadataRow). r.position) above)

  timer-alone : P fault.PositionAbove → FormatRefusedWith P (timer_row [])
  unfolding timer_row
  timer-alone above = gives-timer-row ends (gives-first-position ends (λ (r : TimerRow). r.position) above)

-- faults whose number is one of these, among which is 16
abbrev IsOneOf : List ℕ → Fault → Type 0
IsOneOf numbers e = is_one_of (refusal_number e) numbers ≡ true

module _ {A B : Type 0} (numbers : List ℕ) (none : is_one_of no_such numbers ≡ true) (fields : A → B) {f : BlockFormat A} (h : FormatRefusedWith (IsOneOf numbers) f) where
  answer-in : (r : Read Fault B) → ReadRefusedWith (IsOneOf numbers) r → RefusedWith numbers (answer_of r)
  answer-in (done a n) k = tt
  answer-in (refused e p) k = k

  front-in : (s : List ℕ) → RefusedWith numbers (front_row s (map_read fields (f.read s)))
  front-in s =
      let r = map_read fields (f.read s) in
      with-cond numbers (eqb (length s) 0) (plain no_such) (answer_of r) none (answer-in r (by_map (IsOneOf numbers) fields (f.read s) (h.reads s)))

  version-in : is_one_of version_outside numbers ≡ true → (b : Bool) (s : List ℕ) → RefusedWith numbers (cond b (front_row s (map_read fields (f.read s))) (plain version_outside))
  version-in own b s = with-cond numbers b (front_row s (map_read fields (f.read s))) (plain version_outside) (front-in s) own

pub row-numbers : RowNumbers
row-numbers = record {
  name = front-in name_row_numbers refl name_fields (name-alone refl);
  metadata = λ v. version-in metadata_row_numbers refl (metadata_fields v) (metadata-alone refl v refl refl) refl (is_version v);
  object = front-in object_row_numbers refl object_fields (gives-object-row refl);
  timer = front-in timer_row_numbers refl timer_fields (timer-alone refl refl);
}

-- ---- the block
pub block-answer-numbers : (r : Read Fault Block) → RefusedWith block_numbers (block_answer r)
block-answer-numbers (done b n) = tt
block-answer-numbers (refused f p) = fault-number f

pub block-numbers : BlockNumbers
unfolding block_of
block-numbers s = block-answer-numbers (verdict all s)

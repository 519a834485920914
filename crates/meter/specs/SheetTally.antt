-- Tallying a sheet: document 01, 'Order'.
use Rattle.std.specs.Prelude.{ℕ, cond, List, length, nat_le}
use Rattle.wire.specs.Answer.{Answer, good, refusal, plain, bad_part, parts_misfit, no_room, too_many, then_answer}
use Rattle.tally.specs.Tally.{tally, max_rows}
use Rattle.position.specs.declared.part.Part.{Part}
use Rattle.position.specs.Parts.{good_part}
use Rattle.meter.specs.Standing.{nodes_in}
use Rattle.meter.specs.Counting.{Measure, MeasureRows, tally_of}
use Rattle.sheet.specs.Sheet.{sheet_of}

-- ---- the tally: 10, 12, then the sheet's own, then 11, then 14 for its rows; the last two have the record count as record
module _ (m : Measure) where
  unfoldable pub fitted_sheet : ℕ → MeasureRows m → ℕ → Answer (List ℕ)
  fitted_sheet room l n = cond (nat_le (length ((tally m.kind).encode l)) room)
      (cond (nat_le (length l) max_rows) (good ((tally m.kind).encode l)) (refusal too_many n 0))
      (refusal no_room n 0)

  -- `spare` is the length of the spare buffer
  unfoldable pub tally_sheet_of : List ℕ → Part → ℕ → ℕ → Answer (List ℕ)
  tally_sheet_of s p room spare = cond (good_part p)
      (cond (nat_le room spare)
      (then_answer (sheet_of s) λ l. fitted_sheet room (tally_of m (nodes_in p l)) (length l))
      (plain parts_misfit))
      (plain bad_part)

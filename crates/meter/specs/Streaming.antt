-- A sheet tallied a record at a time, in the order of document 01, 'Order': start, step and finish.
use Rattle.std.specs.Prelude.{ℕ, suc, cond, List, [], ◌∷◌, ℤ, nat_le}
use Rattle.std.proofs.Math.Option.{Option, some, none}
use Rattle.wire.specs.Answer.{Answer, good, plain, bad_part, parts_misfit, then_answer}
use Rattle.tally.specs.Rows.{plus}
use Rattle.position.specs.declared.part.Part.{Part}
use Rattle.position.specs.Parts.{good_part}
use Rattle.sheet.specs.Placed.{Placed}
use Rattle.meter.specs.Standing.{nodes_in}
use Rattle.meter.specs.Counting.{Measure, MeasureRows, tally_of}
use Rattle.sheet.specs.Sheet.{SheetRecord, frame, in_record, framed, judge_record}
use Rattle.meter.specs.SheetTally.{fitted_sheet}

module _ (m : Measure) where
  -- between two records: the last key, how many records were taken, and the rows of what they hold
  pub record State : Type 0 where
    pub last : Option ℤ
    pub records : ℕ
    pub rows : MeasureRows m

  abbrev pub no_records : State
  no_records = record { last = none; records = 0; rows = [] }

  -- 10, then 12 for a spare shorter than the room
  unfoldable pub start_of : Part → ℕ → ℕ → Answer State
  start_of p room spare = cond (good_part p) (cond (nat_le room spare) (good no_records) (plain parts_misfit)) (plain bad_part)

  -- a record taken
  abbrev pub taking : Part → State → ℤ → Placed → State
  taking p w key x = record { last = some key; records = suc w.records; rows = plus m.kind.counts (tally_of m (nodes_in p (x ∷ []))) w.rows }

  unfoldable pub step_of : Part → State → SheetRecord → Answer State
  step_of p w r = then_answer (in_record w.records (judge_record w.last r)) λ x. good (taking p w r.key x)

  unfoldable pub steps_of : Part → State → List SheetRecord → Answer State
  steps_of p w [] = good w
  steps_of p w (r ∷ l) = then_answer (step_of p w r) λ v. steps_of p v l

  -- the record at the front of some bytes, with how many of them it takes: its framing, 15, and then a step
  unfoldable pub take_of : Part → State → List ℕ → Answer (State × ℕ)
  take_of p w s = framed w.records (frame.read s) λ r n. then_answer (step_of p w r) λ v. good (v, n)

  -- 11, then 14
  abbrev pub finish_of : ℕ → State → Answer (List ℕ)
  finish_of room w = fitted_sheet m room w.rows w.records

-- Tallying one block: document 01, 'Order': 10, 9, the block's numbers, 11.
use Rattle.std.specs.Prelude.{ℕ, cond, List, [], ◌∷◌, ℤ}
use Rattle.wire.specs.Answer.{Answer, plain, then_answer, bad_part, in_room}
use Rattle.tally.specs.Tally.{tally}
use Rattle.position.specs.declared.part.Part.{Part}
use Rattle.position.specs.Parts.{good_part}
use Rattle.sheet.specs.Placed.{placed_at}
use Rattle.meter.specs.Standing.{nodes_in}
use Rattle.meter.specs.Counting.{Measure, MeasureRows, tally_of}

module _ (m : Measure) where
  -- the bytes of rows, where they fit
  abbrev pub fitted : ℕ → MeasureRows m → Answer (List ℕ)
  fitted room l = in_room room ((tally m.kind).encode l)

  unfoldable pub tally_block_of : ℤ → List ℕ → Part → ℕ → Answer (List ℕ)
  tally_block_of key s p room = cond (good_part p)
      (then_answer (placed_at key s) λ x. fitted room (tally_of m (nodes_in p (x ∷ []))))
      (plain bad_part)

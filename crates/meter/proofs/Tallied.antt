-- The tally of a block, by cases.
use Rattle.std.proofs.Common.{◌≡◌, ℕ, true, List, length, ℤ, ap, ◌∙◌}
use Rattle.wire.specs.Bytes.{Bytes}
use Rattle.wire.specs.Read.{Read, done, refused, map_read}
use Rattle.wire.specs.Answer.{good, refusal, Answered}
use Rattle.position.specs.Keys.{split_of}
use Rattle.position.specs.declared.key.Coordinates.{Coordinates}
use Rattle.mapblock.specs.Data.{Block}
use Rattle.mapblock.specs.Block.{verdict}
use Rattle.mapblock.specs.Numbers.{refusal_number}
use Rattle.block_reader.specs.Questions.{block_of}
use Rattle.block_reader.specs.Sections.{scanned_of}
use Rattle.mapblock.specs.Layout.{all}
use Rattle.mapblock.specs.Table.{clear_table, free_in}
use Rattle.mapblock.specs.declared.fault.Fault.{Fault}
use Rattle.block_reader.specs.declared.scan.Scanned.{Scanned}
use Rattle.block_reader.proofs.BlockAnswers.{clear-table, block_refused, TakenAs, taken_as_lem}
use Rattle.position.specs.declared.part.Part.{Part}
use Rattle.position.specs.Parts.{good_part}
use Rattle.meter.specs.Counting.{by_one}
use Rattle.sheet.specs.Placed.{placed_at}
use Rattle.meter.specs.Tallying.{tally_block_of}
use Rattle.sheet.specs.Records.{ScannedAs}
use Rattle.meter.specs.Told.{told_block, PutAs}
use Rattle.std.specs.Prelude.{Result}
use Rattle.meter.specs.declared.block_tally.BlockError.{BlockError}

-- what the scan told by a clear table of ids
module _ (s : List ℕ) {ids : List ℕ} (t : ids ≡ clear_table) where
  cleared : {r : Read Fault Scanned} → r ≡ map_read scanned_of (verdict (free_in ids) s) → r ≡ map_read scanned_of (verdict all s)
  unfolding clear_table
  cleared h = clear-table 65536 s (h ∙ ap (λ (l : List ℕ). map_read scanned_of (verdict (free_in l) s)) t)

  pub refused-block : {f : Fault} {o : ℕ} → refused f o ≡ map_read scanned_of (verdict (free_in ids) s) → block_of s ≡ refusal (refusal_number f) 0 o
  refused-block r = block_refused s (cleared r)

  module _ {w : Scanned} {n : ℕ} (y : Bytes s) (r : done w n ≡ map_read scanned_of (verdict (free_in ids) s)) where
    taken-block : TakenAs s w
    taken-block = taken_as_lem s y (cleared r)

    pub block-found : (b : Block) × ScannedAs s w b
    block-found = let x = taken-block in (x.b, record { end = x.n; taken = x.reads; shows = x.shows })

    pub block-put : (key : ℤ) (p : Part) (d : List ℕ) {e : List ℕ} {c : Coordinates} (a : Result ℕ BlockError) → good_part p ≡ true → good c ≡ split_of key → ((b : Block) → ScannedAs s w b → PutAs p c b d e a)
        → Answered (told_block a) d e (tally_block_of by_one key s p (length d))
    unfolding tally_block_of placed_at
    block-put key p d a h k f = rw (h, ← k, taken-block.answer) (f taken-block.b record { end = taken-block.n; taken = taken-block.reads; shows = taken-block.shows })

-- A record judged by a clear table: the verdict is document 01's.
use Prim.Native.Nat.{ℕ}
use mathlib.Core.Path.{◌≡◌, refl, ap, ◌∙◌}
use mathlib.Core.Bool.{Bool}
use mathlib.Core.List.{List}
use mathlib.Core.Option.{Option}
use lib.IntN.{ℤ}
use Rattle.wire.specs.Answer.{Answer, good, map_answer, Matches}
use Rattle.wire.proofs.Answers.{matches-map}
use Rattle.position.specs.declared.key.Coordinates.{Coordinates}
use Rattle.mapblock.specs.Layout.{all}
use Rattle.mapblock.specs.Block.{verdict}
use Rattle.block_reader.specs.Questions.{block_of}
use Rattle.mapblock.specs.Table.{free_in, clear_table}
use Rattle.block_reader.specs.declared.scan.Scanned.{Scanned}
use Rattle.block_reader.proofs.BlockAnswers.{clear-all}
use Rattle.sheet.specs.Placed.{Placed}
use Rattle.sheet.specs.Sheet.{SheetRecord, judged_in, judge_record}
use Rattle.sheet.specs.Records.{scanned_at, ScannedAs}
use Rattle.sheet.proofs.TakenBlocks.{block-by}
use Rattle.sheet.proofs.RecordSteps.{judge-taken}

-- what the code keeps of a block that stands in s
abbrev pub KeptOf : List ℕ → Coordinates × Scanned → Placed → Type 0
KeptOf s w x = (x.at ≡ w.0) × ScannedAs s w.1 x.block

module _ (last : Option ℤ) (r : SheetRecord) where
  -- the verdict is document 01's
  pub clear-judged : (t : List ℕ) → t ≡ clear_table → judged_in (free_in t) last r ≡ judge_record last r
  unfolding clear_table
  clear-judged t e = ap (λ (free : ℕ → Bool). judged_in free last r) (ap free_in e ∙ clear-all 65536)

  kept : (x : Placed) → judge_record last r ≡ good x → KeptOf r.block (scanned_at x) x
  unfolding block_of
  kept x h = let y = block-by (verdict all r.block) x.block (judge-taken last r x h).2 in (refl, record { end = y.0; taken = y.1; shows = refl })

  pub record-matches : (t : List ℕ) → t ≡ clear_table → {a : Answer (Coordinates × Scanned)} → a ≡ map_answer scanned_at (judged_in (free_in t) last r) → Matches (KeptOf r.block) a (judge_record last r)
  record-matches t e h = matches-map (KeptOf r.block) scanned_at (judge_record last r) (h ∙ ap (map_answer scanned_at) (clear-judged t e)) kept

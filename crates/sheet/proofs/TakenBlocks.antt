-- Blocks that are taken: they are well formed, and their bytes are the blocks'.
use Prim.Native.Nat.{ℕ}
use mathlib.Core.Path.{◌≡◌, refl, ap, ◌∙◌}
use mathlib.Core.List.{List, [], ◌∷◌}
use lib.IntN.{ℤ}
use lib.ListN.{length}
use Rattle.wire.specs.Bytes.{Bytes}
use Rattle.wire.specs.Read.{Read, done, refused}
use Rattle.wire.specs.Answer.{good, map_answer}
use Rattle.wire.proofs.Answers.{no-good, then-good, map-good}
use Rattle.position.specs.Keys.{split_of}
use Rattle.mapblock.specs.Data.{Block}
use Rattle.mapblock.specs.Layout.{all}
use Rattle.mapblock.specs.Block.{block, verdict}
use Rattle.block_reader.specs.Questions.{block_answer, block_of}
use Rattle.mapblock.specs.Valid.{Valid}
use Rattle.mapblock.specs.declared.fault.Fault.{Fault}
use Rattle.block_reader.proofs.Taken.{taken}
use Rattle.sheet.specs.Placed.{Placed, placed, placed_at}

-- ---- a block that is taken is well formed, and its bytes are the block's
pub block-by : (x : Read Fault Block) (b : Block) → block_answer x ≡ good b → (n : ℕ) × (x ≡ done b n)
block-by (done c n) b h = let e : c ≡ b = cc in (n, rw e)
block-by (refused f p) b h = no-good h

pub block-valid : (s : List ℕ) (b : Block) → Bytes s → block_of s ≡ good b → Valid b × (s ≡ (block all).encode b)
unfolding block_of
block-valid s b w h =
    let x = block-by (verdict all s) b h in
    let y = (taken s b x.0 w).0 x.1 in
    (y.0, y.1)

pub valid-block : (s : List ℕ) (b : Block) → Bytes s → Valid b → s ≡ (block all).encode b → block_of s ≡ good b
unfolding block_of
valid-block s b w v e = rw ((taken s b (length s) w).1 (v, e, refl))

-- at a key
pub placed-taken : (key : ℤ) (s : List ℕ) (x : Placed) → placed_at key s ≡ good x → (split_of key ≡ good x.at) × (block_of s ≡ good x.block)
unfolding placed_at
placed-taken key s x h =
    let y = then-good (split_of key) (λ c. map_answer (placed c) (block_of s)) x h in
    let z = map-good (placed y.0) (block_of s) x y.2 in
    (y.1 ∙ ap (λ (p : Placed). good p.at) z.2, z.1 ∙ ap (λ (p : Placed). good p.block) z.2)

-- ---- several blocks
abbrev pub AllValid : List Placed → Type 0
AllValid [] = Unit {0}
AllValid (x ∷ l) = Valid x.block × AllValid l

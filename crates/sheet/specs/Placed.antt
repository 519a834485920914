-- A block where it stands in the world: document 01, 'Position keys' and 'Order'.
use Rattle.std.specs.Prelude.{ℕ, List, ℤ}
use Rattle.wire.specs.Answer.{Answer, map_answer, then_answer}
use Rattle.position.specs.Keys.{split_of}
use Rattle.position.specs.declared.key.Coordinates.{Coordinates}
use Rattle.mapblock.specs.Data.{Block}
use Rattle.block_reader.specs.Questions.{block_of}

pub record Placed : Type 0 where
  pub at : Coordinates
  pub block : Block

abbrev pub placed : Coordinates → Block → Placed
placed c b = record { at = c; block = b }

-- the block at a key: 9, then the block's numbers
unfoldable pub placed_at : ℤ → List ℕ → Answer Placed
placed_at key s = then_answer (split_of key) λ c. map_answer (placed c) (block_of s)

-- The first node whose content id is not mapped.
use Prim.Native.Nat.{ℕ, ◌<◌}
use mathlib.Core.Path.{◌≡◌}
use mathlib.Core.List.{List}
use mathlib.Core.Bool.{true}
use lib.ListN.{length, get_or}
use borrow.Author.Tests.{lt-leb}
use Rattle.mapblock.specs.Data.{Block}
use Rattle.mapblock.specs.Layout.{all, unmapped}
use Rattle.mapblock.specs.Block.{id_at, first_unmapped}
use Rattle.mapblock.specs.Table.{Tabled}
use Rattle.mapblock.proofs.Firsts.{first-same}
use Rattle.block_writer.specs.BlockParts.{param0_fits}
use Rattle.block_writer.specs.Judging.{unmarked_among, first_unmapped_among}
use Rattle.block_writer.proofs.Fitting.{cond-then, below-there}

-- up to 23 a param0 is a byte
pub narrow_at : (v : ℕ) (l : List ℕ) (i : ℕ) → param0_fits v l ≡ true → i < length l → v < 24 → get_or l i 0 < 256
narrow_at v l i h k g = below-there 256 l (cond-then _ _ h (lt-leb 24 v g)) i k

-- the table tells what the rows do
module _ (b : Block) (t : List ℕ) (w : Tabled 65536 (unmapped all b.names) t) (below : (i : ℕ) → i < 4096 → id_at b i < 65536) where
  pub first_unmapped-same : first_unmapped all b ≡ first_unmapped_among b.head.version b.nodes.param0 b.nodes.param2 t
  first_unmapped-same = first-same _ (unmarked_among b.head.version b.nodes.param0 b.nodes.param2 t) 4096 0 (λ i _ h. w.tells (id_at b i) (below i h))

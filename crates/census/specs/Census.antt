-- The census of a block: of its nodes that stand in a part of the world, how many have each content id, and the names that they use, in order.
-- Document 01, 'Tallies, lots, spans, sheets'.
use Rattle.std.specs.Prelude.{◌≡◌, ℕ, ◌<◌, Bool, ◌&&◌, List, length, slice_index}
use Rattle.position.specs.Spans.{in_span}
use Rattle.position.specs.declared.key.Coordinates.{Coordinates}
use Rattle.position.specs.declared.part.Part.{Part}
use Rattle.mapblock.specs.Data.{Block}
use Rattle.mapblock.specs.Block.{id_at}
use Rattle.census.specs.CountsById.{in_lot_at, count_by_id}
use Rattle.census.specs.NameOrder.{SortedFrom}
use Rattle.census.specs.UsedNames.{used_in, AllCounted}

-- the node at an index of the block b, which stands at c, lies in the lot, and the block was saved within the span
abbrev pub in_part_at : Part → Coordinates → Block → ℕ → Bool
in_part_at p c b i = in_lot_at p.lot c i && in_span p.span b.head.timestamp

-- the counters t tell what stands in the part of the block b
pub record Counted (p : Part) (c : Coordinates) (b : Block) (t : List ℕ) : Type 0 where
  -- a counter for each content id
  pub size : length t ≡ 65536
  -- it is the number of nodes in the part that have the id
  pub counts : (k : ℕ) → k < 65536 → slice_index t k ≡ count_by_id (in_part_at p c b) (id_at b) k

-- so do the counters t and the places, where the bytes s are the block's rows of names
pub record Census (p : Part) (c : Coordinates) (b : Block) (s t places : List ℕ) : Type 0 where
  pub counters : Counted p c b t
  -- the places are those of the rows whose id is counted, in the order of their names
  pub order : SortedFrom s (used_in t b.names 0) places
  -- so the name at each place has a count
  pub counted : AllCounted s t places

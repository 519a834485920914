-- What stands in a part of the world: document 01, 'Position keys', 'Tallies, lots, spans, sheets' and 'Cuts and merges'.
use Rattle.std.specs.Prelude.{ℕ, zero, suc, Bool, true, false, cond, ◌&&◌, List, [], ◌∷◌, ◌++◌, ◌==◌}
use Rattle.position.specs.Nodes.{node_coordinates}
use Rattle.position.specs.Lots.{in_lot}
use Rattle.position.specs.Spans.{in_span}
use Rattle.position.specs.declared.key.Coordinates.{Coordinates}
use Rattle.mapblock.specs.Data.{MetadataRow}
use Rattle.block_reader.specs.Questions.{name_at}
use Rattle.sheet.specs.Placed.{Placed}
use Rattle.position.specs.declared.part.Part.{Part}

-- a node: its name, where it stands, when its block was saved, and whether a metadata row has its index
pub record Node : Type 0 where
  pub name : List ℕ
  pub place : Coordinates
  pub time : ℕ
  pub metadata : Bool

-- it lies in the lot, and its block was saved within the span
abbrev pub in_part : Part → Node → Bool
in_part p n = in_lot p.lot n.place.x n.place.y n.place.z && in_span p.span n.time

-- ---- the nodes of blocks
abbrev pub has_metadata : List MetadataRow → ℕ → Bool
has_metadata [] i = false
has_metadata (r ∷ l) i = cond (i == r.position) true (has_metadata l i)

-- the node at an index
abbrev pub node_in : Placed → ℕ → Node
node_in x i = record {
  name = name_at x.block i;
  place = node_coordinates x.at i;
  time = x.block.head.timestamp;
  metadata = has_metadata x.block.metadata i;
}

-- so many nodes from an index on
unfoldable pub nodes_from : Placed → ℕ → ℕ → List Node
nodes_from x zero i = []
nodes_from x (suc n) i = node_in x i ∷ nodes_from x n (suc i)

-- of each block all 4,096
unfoldable pub standing : List Placed → List Node
standing [] = []
standing (x ∷ l) = nodes_from x 4096 0 ++ standing l

-- ---- those that lie in a part
-- the nodes that pass a test
unfoldable pub filter_nodes : (Node → Bool) → List Node → List Node
filter_nodes test [] = []
filter_nodes test (n ∷ l) = cond (test n) (n ∷ filter_nodes test l) (filter_nodes test l)

abbrev pub nodes_in : Part → List Placed → List Node
nodes_in p l = filter_nodes (in_part p) (standing l)

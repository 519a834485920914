-- Counting the nodes of a block that lie in a lot: document 01, 'Tallies, lots, spans, sheets'.
use Rattle.std.specs.Prelude.{◌≡◌, ℕ, zero, suc, ◌+◌, ◌%◌, ◌<◌, Bool, ◌&&◌, List, map, length, ◌==◌, slice_index}
use Rattle.wire.specs.Choice.{bit}
use Rattle.position.specs.Nodes.{node_coordinates}
use Rattle.position.specs.Lots.{in_lot}
use Rattle.position.specs.declared.key.Coordinates.{Coordinates}
use Rattle.position.specs.declared.lot.Lot.{Lot}
use Rattle.mapblock.specs.Data.{NameRow}
use Rattle.mapblock.specs.Params.{id_in}
use Rattle.tally.specs.Rows.{Rows}
use Rattle.tally.specs.Tally.{ones}

-- how many i with a ≤ i < a + n pass the test
unfoldable pub count_if : (ℕ → Bool) → ℕ → ℕ → ℕ
count_if p a zero = 0
count_if p a (suc n) = count_if p a n + bit (p (a + n))

-- ---- by content id
-- the node at an index lies in the lot
abbrev pub in_lot_at : Lot → Coordinates → ℕ → Bool
in_lot_at l c i = let n = node_coordinates c i in in_lot l n.x n.y n.z

-- and has the content id k
abbrev pub in_lot_with : ℕ → List ℕ → Lot → Coordinates → ℕ → ℕ → Bool
in_lot_with v s l c k i = in_lot_at l c i && id_in v s i == k

-- the counters, after each i with a ≤ i < a + n raised by one those whose test it passes
pub record Raised (p : ℕ → ℕ → Bool) (a n : ℕ) (old new : List ℕ) : Type 0 where
  pub long : length new ≡ length old
  pub each : (k : ℕ) → k < 65536 → slice_index new k ≡ (slice_index old k + count_if (p k) a n) % 65536

-- after the nodes in the lot each raised that of their id by one
abbrev pub CountsById : ℕ → List ℕ → Lot → Coordinates → List ℕ → List ℕ → Type 0
CountsById v s l c old new = Raised (in_lot_with v s l c) 0 4096 old new

-- ---- by name
-- how many of a block's nodes pass a test and have the content id k
abbrev pub count_by_id : (ℕ → Bool) → (ℕ → ℕ) → ℕ → ℕ
count_by_id q ids k = count_if (λ i. q i && ids i == k) 0 4096

-- the content id that a row of names maps
abbrev pub row_id : NameRow → ℕ
row_id r = r.id

-- the rows of names, each with what f counts of its id
abbrev pub counted_by : (ℕ → ℕ) → List NameRow → Rows ones
counted_by f l = map (λ r. record { name = r.name; count = f r.id }) l

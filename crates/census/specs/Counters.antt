-- The content ids of nodes, as the code reads them out of the param lists.
use Rattle.std.specs.Prelude.{ℕ, ◌+◌, ◌*◌, Bool, List, ◌==◌, slice_index}
use Rattle.mapblock.specs.Block.{content_id}

-- the node at the index i has the content id k
abbrev pub is_at : (ℕ → ℕ) → ℕ → ℕ → Bool
is_at ids k i = ids i == k

-- the content id of the node at an index, where a param0 has two bytes
abbrev pub wide_id : List ℕ → ℕ → ℕ
wide_id s i = slice_index s (2 * i) * 256 + slice_index s (2 * i + 1)

-- and where it has one
abbrev pub narrow_id : ℕ → List ℕ → ℕ → ℕ
narrow_id v s i = content_id v (slice_index s i) (slice_index s (8192 + i))

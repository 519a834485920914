-- The param lists of document 01's 'Block layout', step 4, as bytes: what code that tests the bounds of a run once reads in them.
use Rattle.std.specs.Prelude.{ℕ, zero, suc, ◌+◌, ◌*◌, ◌≤◌, ◌≡◌, List, [], ◌∷◌, Bool, cond, leb, length, get_or, take, drop}
use Rattle.std.proofs.Math.Option.{Option, none}
use Rattle.wire.specs.Bytes.{from_be}
use Rattle.mapblock.specs.Data.{Nodes}
use Rattle.mapblock.specs.Layout.{width}
use Rattle.mapblock.specs.Block.{content_id, first_from}
use Rattle.mapblock.specs.Table.{free_in}

-- n entries of w bytes
unfoldable pub entries : ℕ → ℕ → List ℕ → List ℕ
entries w zero s = []
entries w (suc n) s = from_be 0 (take w s) ∷ entries w n (drop w s)

-- the three lists, param0 of w bytes each
abbrev pub lists_of : ℕ → List ℕ → Nodes
lists_of w s = record { param0 = entries w 4096 s; param1 = entries 1 4096 (drop (4096 * w) s); param2 = entries 1 4096 (drop (4096 * w + 4096) s) }

-- the content id of the node at an index
abbrev pub id_in : ℕ → List ℕ → ℕ → ℕ
id_in v s i = content_id v (from_be 0 (take (width v) (drop (width v * i) s))) (get_or s (4096 * width v + 4096 + i) 0)

-- whether that has no mark in the table, and the first node of which it has none
abbrev pub unmarked_in : ℕ → List ℕ → List ℕ → ℕ → Bool
unmarked_in v s t i = free_in t (id_in v s i)

abbrev pub first_unmapped_in : ℕ → List ℕ → List ℕ → Option ℕ
first_unmapped_in v s t = first_from (unmarked_in v s t) 4096 0

-- every id up to a bound has a mark in the table
abbrev pub MarkedUpto : List ℕ → ℕ → Type 0
MarkedUpto t bound = (id : ℕ) → id ≤ bound → get_or t id 0 ≡ 0 → ⊥

-- the bytes hold the three lists
abbrev pub holds_lists : ℕ → List ℕ → Bool
holds_lists v s = leb (4096 * width v + 8192) (length s)

abbrev pub first_unmapped_of : ℕ → List ℕ → List ℕ → Option ℕ
first_unmapped_of v s t = cond (holds_lists v s) (first_unmapped_in v s t) none

abbrev pub id_of : ℕ → List ℕ → ℕ → ℕ
id_of v s i = cond (leb 4096 i) 0 (cond (holds_lists v s) (id_in v s i) 0)

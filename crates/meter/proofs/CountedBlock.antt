-- What stands of a block in a part, counted by the index of its nodes.
use Rattle.std.proofs.Common.{◌≡◌, ℕ, zero, suc, ◌+◌, Bool, true, false, cond, ◌&&◌, List, [], ◌∷◌, length, sym, refl, ap, ◌∙◌, arith}
use Rattle.wire.specs.Choice.{bit}
use Rattle.position.specs.declared.key.Coordinates.{Coordinates}
use Rattle.position.specs.declared.part.Part.{Part}
use Rattle.mapblock.specs.Data.{Block}
use Rattle.block_reader.specs.Questions.{name_at}
use Rattle.tally.specs.Rows.{is_named}
use Rattle.census.specs.CountsById.{count_if}
use Rattle.census.specs.Census.{in_part_at}
use Rattle.census.proofs.Counts.{count_if-front}
use Rattle.sheet.specs.Placed.{Placed, placed}
use Rattle.meter.specs.Standing.{Node, in_part, node_in, nodes_from, filter_nodes, nodes_in}
use Rattle.meter.specs.Counting.{bearing, amount_of, by_one}
use Rattle.meter.proofs.NamesAlone.{standing-one}

-- the nodes that pass two tests
module _ (x : Placed) (p : Part) (n : List ℕ) where
  abbrev both : ℕ → Bool
  both i = in_part p (node_in x i) && is_named n (name_at x.block i)

  by_index : (k i : ℕ) → length (bearing n (filter_nodes (in_part p) (nodes_from x k i))) ≡ count_if both i k
  unfolding filter_nodes nodes_from count_if
  by_index zero i = refl
  by_index (suc k) i = go (in_part p (node_in x i)) (is_named n (name_at x.block i)) refl refl (by_index k (suc i)) ∙ sym (count_if-front both i k)
    where
      go : (a b : Bool) → in_part p (node_in x i) ≡ a → is_named n (name_at x.block i) ≡ b
          → length (bearing n (filter_nodes (in_part p) (nodes_from x k (suc i)))) ≡ count_if both (suc i) k
          → length (bearing n (cond a (node_in x i ∷ filter_nodes (in_part p) (nodes_from x k (suc i))) (filter_nodes (in_part p) (nodes_from x k (suc i))))) ≡ bit (both i) + count_if both (suc i) k
      go true true e f h = rw (e, f) (omega arith)
      go true false e f h = rw (e, f) (omega arith)
      go false b e f h = rw e (omega arith)

-- of one block
pub standing-amount : (p : Part) (c : Coordinates) (b : Block) (n : List ℕ) → amount_of by_one n (nodes_in p (placed c b ∷ [])) ≡ count_if (λ i. in_part_at p c b i && is_named n (name_at b i)) 0 4096
standing-amount p c b n = ap (λ (l : List Node). length (bearing n (filter_nodes (in_part p) l))) (standing-one (placed c b)) ∙ by_index (placed c b) p n 4096 0

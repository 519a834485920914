-- The tally of a block depends on the names of its nodes alone.
use Rattle.std.proofs.Common.{◌≡◌, ℕ, zero, suc, ◌+◌, ◌<◌, ◌≤◌, Bool, true, false, cond, ◌&&◌, List, [], ◌∷◌, refl, ap, ◌∙◌, append-nil, arith}
use Rattle.wire.specs.Answer.{Answer, good, refusal, plain, bad_part, then_answer}
use Rattle.position.specs.Keys.{split_of}
use Rattle.position.specs.Nodes.{node_coordinates}
use Rattle.position.specs.Lots.{in_lot}
use Rattle.position.specs.Spans.{in_span}
use Rattle.position.specs.declared.key.Coordinates.{Coordinates}
use Rattle.mapblock.specs.Data.{Block}
use Rattle.block_reader.specs.Questions.{name_at}
use Rattle.tally.specs.Rows.{Rows, add_row}
use Rattle.tally.specs.Tally.{ones}
use Rattle.position.specs.declared.part.Part.{Part}
use Rattle.position.specs.Parts.{good_part}
use Rattle.sheet.specs.Placed.{Placed, placed, placed_at}
use Rattle.meter.specs.Standing.{in_part, node_in, nodes_from, standing, filter_nodes, nodes_in}
use Rattle.meter.specs.Counting.{tally_of, by_one}
use Rattle.meter.specs.Tallying.{fitted, tally_block_of}
use Rattle.meter.specs.Theorems.{NamesAlone}

-- one block's nodes, with nothing behind them
pub standing-one : (x : Placed) → standing (x ∷ []) ≡ nodes_from x 4096 0
unfolding standing
standing-one x = append-nil (nodes_from x 4096 0)

module _ (c : Coordinates) (a b : Block) (p : Part) (time : in_span p.span a.head.timestamp ≡ in_span p.span b.head.timestamp) where
  abbrev x : Placed
  x = placed c a

  abbrev y : Placed
  y = placed c b

  -- the node at an index lies in the part in one block where it does in the other
  in-same : (i : ℕ) → in_part p (node_in x i) ≡ in_part p (node_in y i)
  in-same i = let n = node_coordinates c i in ap (λ (t : Bool). in_lot p.lot n.x n.y n.z && t) time

  -- a node of a name in front of others
  abbrev with-name : List ℕ → Rows ones → Rows ones
  with-name n l = add_row ones (record { name = n; count = 1 }) l

  same_rows : (n i : ℕ) → ((j : ℕ) → i ≤ j → j < i + n → name_at a j ≡ name_at b j)
      → tally_of by_one (filter_nodes (in_part p) (nodes_from x n i)) ≡ tally_of by_one (filter_nodes (in_part p) (nodes_from y n i))
  unfolding tally_of filter_nodes nodes_from
  same_rows zero i h = refl
  same_rows (suc n) i h =
      rw (in-same i) (go (in_part p (node_in y i)) (h i (omega arith) (omega arith)) (same_rows n (suc i) (λ j k l. h j (omega arith) (omega arith))))
    where
      go : (t : Bool) → name_at a i ≡ name_at b i
          → tally_of by_one (filter_nodes (in_part p) (nodes_from x n (suc i))) ≡ tally_of by_one (filter_nodes (in_part p) (nodes_from y n (suc i)))
          → tally_of by_one (cond t (node_in x i ∷ filter_nodes (in_part p) (nodes_from x n (suc i))) (filter_nodes (in_part p) (nodes_from x n (suc i))))
          ≡ tally_of by_one (cond t (node_in y i ∷ filter_nodes (in_part p) (nodes_from y n (suc i))) (filter_nodes (in_part p) (nodes_from y n (suc i))))
      go true e r = ap (λ (m : List ℕ). with-name m (tally_of by_one (filter_nodes (in_part p) (nodes_from x n (suc i))))) e ∙ ap (with-name (name_at b i)) r
      go false e r = r

  same-tally : ((i : ℕ) → i < 4096 → name_at a i ≡ name_at b i) → tally_of by_one (nodes_in p (x ∷ [])) ≡ tally_of by_one (nodes_in p (y ∷ []))
  same-tally h = rw (standing-one x, standing-one y) (same_rows 4096 0 (λ j k l. h j (omega arith)))

pub names-alone : NamesAlone
unfolding tally_block_of placed_at
names-alone key s u b c p room e f h t = rw (e, f) (ap (λ (a : Answer (List ℕ)). cond (good_part p) a (plain bad_part)) (go (split_of key)))
  where
    go : (k : Answer Coordinates)
        → then_answer (then_answer k λ d. good (placed d b)) (λ x. fitted by_one room (tally_of by_one (nodes_in p (x ∷ []))))
        ≡ then_answer (then_answer k λ d. good (placed d c)) (λ x. fitted by_one room (tally_of by_one (nodes_in p (x ∷ []))))
    go (good d) = ap (fitted by_one room) (same-tally d b c p t h)
    go (refusal n r o) = refl

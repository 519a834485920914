-- What stands in a block, and so its tally, does not depend on the form of its metadata list.
use Rattle.std.proofs.Common.{◌≡◌, ℕ, zero, suc, ◌≤◌, cond, List, [], ◌∷◌, ℤ, sym, refl, ap, ◌∙◌, arith}
use Rattle.wire.specs.Answer.{Answer, good, refusal, plain, bad_part, map_answer, then_answer}
use Rattle.position.specs.Keys.{split_of}
use Rattle.position.specs.declared.key.Coordinates.{Coordinates}
use Rattle.position.specs.declared.part.Part.{Part}
use Rattle.position.specs.Parts.{good_part}
use Rattle.mapblock.specs.Data.{Block}
use Rattle.mapblock.specs.Layout.{all, list_counted, list_zero}
use Rattle.mapblock.specs.Block.{block}
use Rattle.block_reader.specs.Questions.{block_of}
use Rattle.block_reader.specs.Theorems.{with_form, EitherForm}
use Rattle.block_reader.proofs.Taken.{valid-bytes}
use Rattle.block_reader.proofs.BothForms.{either-valid}
use Rattle.sheet.specs.Placed.{Placed, placed, placed_at}
use Rattle.sheet.proofs.TakenBlocks.{valid-block}
use Rattle.meter.specs.Standing.{Node, in_part, node_in, nodes_from, filter_nodes, nodes_in}
use Rattle.meter.specs.Counting.{Measure, tally_of}
use Rattle.meter.specs.Tallying.{fitted, tally_block_of}
use Rattle.meter.specs.Theorems.{block_nodes, FormsStandAlike, FormsAlike}
use Rattle.meter.proofs.NamesAlone.{standing-one}

-- ---- the nodes
module _ (c : Coordinates) (b : Block) (form : ℕ) where
  same_nodes : (n i : ℕ) → nodes_from (placed c (with_form form b)) n i ≡ nodes_from (placed c b) n i
  unfolding nodes_from
  same_nodes zero i = refl
  same_nodes (suc n) i = ap (λ (l : List Node). node_in (placed c b) i ∷ l) (same_nodes n (suc i))

  same_in : (p : Part) → nodes_in p (placed c (with_form form b) ∷ []) ≡ nodes_in p (placed c b ∷ [])
  same_in p = ap (filter_nodes (in_part p)) (standing-one (placed c (with_form form b)) ∙ same_nodes 4096 0 ∙ sym (standing-one (placed c b)))

module _ (key : ℤ) (b : Block) (e : EitherForm b) (p : Part) where
  -- of a block that is taken, by where it stands
  nodes-at : (form : ℕ) → form ≤ 1 → block_nodes key ((block all).encode (with_form form b)) p ≡ map_answer (λ (c : Coordinates). nodes_in p (placed c b ∷ [])) (split_of key)
  unfolding placed_at
  nodes-at form l =
      let valid = either-valid b e form l in
      let taken : block_of ((block all).encode (with_form form b)) ≡ good (with_form form b) = valid-block _ (with_form form b) (valid-bytes (with_form form b) valid) valid refl in
      rw taken (go (split_of key))
    where
      go : (a : Answer Coordinates) → map_answer (λ (x : Placed). nodes_in p (x ∷ [])) (then_answer a λ c. good (placed c (with_form form b))) ≡ map_answer (λ (c : Coordinates). nodes_in p (placed c b ∷ [])) a
      go (good c) = ap good (same_in c b form p)
      go (refusal n r o) = refl

pub forms-stand-alike : FormsStandAlike
forms-stand-alike key b e p = nodes-at key b e p list_counted (omega arith) ∙ sym (nodes-at key b e p list_zero (omega arith))

-- ---- the tally
pub forms-alike : (m : Measure) → FormsAlike m
unfolding tally_block_of
forms-alike m key b e p room =
    ap (λ (a : Answer (List ℕ)). cond (good_part p) a (plain bad_part))
    (by-nodes (placed_at key ((block all).encode (with_form list_counted b)))
    ∙ ap (λ (a : Answer (List Node)). then_answer a counted) (forms-stand-alike key b e p)
    ∙ sym (by-nodes (placed_at key ((block all).encode (with_form list_zero b)))))
  where
    counted : List Node → Answer (List ℕ)
    counted l = fitted m room (tally_of m l)

    by-nodes : (a : Answer Placed) → then_answer a (λ x. counted (nodes_in p (x ∷ []))) ≡ then_answer (map_answer (λ (x : Placed). nodes_in p (x ∷ [])) a) counted
    by-nodes (good x) = refl
    by-nodes (refusal n r o) = refl

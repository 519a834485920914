-- The rows of names that a block uses, by the counters of its content ids: they are few, count the nodes by name, and clear the counters again.
use Rattle.std.proofs.Common.{◌≡◌, ℕ, ◌+◌, ◌<◌, ◌≤◌, Bool, true, false, cond, ◌&&◌, eqb, List, [], ◌∷◌, length, get_or, sym, refl, ◌∙◌, arith, ext_get_or, eqb-true}
use lib.ListN.{length-replicate}
use borrow.Author.Tests.{eqb-false}
use Rattle.wire.specs.Order.{order, choose}
use Rattle.std.specs.declared.cmp.Ordering.{Ordering}
use Rattle.std.specs.declared.cmp.Ordering.TheVariants.{Less, Equal, Greater}
use Rattle.mapblock.specs.Data.{NameRow, Block}
use Rattle.mapblock.specs.Block.{id_at}
use Rattle.block_reader.specs.Questions.{name_at}
use Rattle.mapblock.specs.Table.{unmarked, clear_table}
use Rattle.mapblock.specs.Valid.{Each, NameGood, Valid}
use Rattle.block_reader.proofs.BlockAnswers.{zeros-at}
use Rattle.tally.specs.Rows.{is_named, count_in}
use Rattle.tally.specs.Tally.{ones}
use Rattle.census.specs.UsedNames.{used_in, used_counts, total_count}
use Rattle.census.specs.CountsById.{count_if, count_by_id, counted_by}
use Rattle.census.proofs.Counts.{sum_if}
use Rattle.census.proofs.CountsByName.{over, by_name, SameAt, over-same, by-weight, by_name_lem, counted-bound}
use Rattle.census.proofs.Cleared.{clear-again, cleared-length}

-- ---- rows that are counted, and rows by what is counted of their ids
module _ (t : List ℕ) (f : ℕ → ℕ) where
  abbrev Tells : List NameRow → Type 0
  Tells = SameAt (λ k. get_or t k 0) f

  told-counts : (l : List NameRow) → Tells l → (n : List ℕ) → count_in ones (used_counts t l) n ≡ count_in ones (counted_by f l) n
  unfolding used_counts
  told-counts [] h n = refl
  told-counts (r ∷ l) h n = go (eqb (get_or t r.id 0) 0) refl (told-counts l h.1 n)
    where
      none : (o : Ordering) → f r.id ≡ 0 → choose o 0 (f r.id) 0 ≡ 0
      none Less e = refl
      none Equal e = e
      none Greater e = refl

      go : (z : Bool) → eqb (get_or t r.id 0) 0 ≡ z → count_in ones (used_counts t l) n ≡ count_in ones (counted_by f l) n
          → count_in ones (cond z (used_counts t l) (record { name = r.name; count = get_or t r.id 0 } ∷ used_counts t l)) n ≡ count_in ones (counted_by f (r ∷ l)) n
      go true e k = omega (arith, k, none (order r.name n) (sym h.0 ∙ eqb-true (get_or t r.id 0) 0 e))
      go false e k = rw (h.0, k)

  told-total_count : (l : List NameRow) → Tells l → total_count (used_counts t l) ≡ total_count (counted_by f l)
  unfolding used_counts
  told-total_count [] h = refl
  told-total_count (r ∷ l) h = go (eqb (get_or t r.id 0) 0) refl (told-total_count l h.1)
    where
      go : (z : Bool) → eqb (get_or t r.id 0) 0 ≡ z → total_count (used_counts t l) ≡ total_count (counted_by f l)
          → total_count (cond z (used_counts t l) (record { name = r.name; count = get_or t r.id 0 } ∷ used_counts t l)) ≡ f r.id + total_count (counted_by f l)
      go true e k = omega (arith, k, h.0, eqb-true (get_or t r.id 0) 0 e)
      go false e k = omega (arith, k, h.0)

-- a place for each, and each counts at least one
used-few : (t : List ℕ) (l : List NameRow) (at : ℕ) → length (used_in t l at) ≤ total_count (used_counts t l)
unfolding used_in used_counts
used-few t [] at = omega arith
used-few t (r ∷ l) at = go (eqb (get_or t r.id 0) 0) refl (used-few t l (at + 4 + length r.name))
  where
    go : (z : Bool) → eqb (get_or t r.id 0) 0 ≡ z → length (used_in t l (at + 4 + length r.name)) ≤ total_count (used_counts t l)
        → length (cond z (used_in t l (at + 4 + length r.name)) (at ∷ used_in t l (at + 4 + length r.name))) ≤ total_count (cond z (used_counts t l) (record { name = r.name; count = get_or t r.id 0 } ∷ used_counts t l))
    go true e k = k
    go false e k = omega (arith, eqb-false (get_or t r.id 0) 0 e)

-- ---- counters that are clear
pub clear_zero : (k : ℕ) → get_or clear_table k 0 ≡ 0
unfolding clear_table
clear_zero k = zeros-at 65536 k

pub clear-long : length clear_table ≡ 65536
unfolding clear_table
clear-long = length-replicate {A = ℕ} 65536 0

-- ---- counters t of the nodes of a block that pass a test
module _ (b : Block) (q : ℕ → Bool) (t : List ℕ) (valid : Valid b) (counts : (k : ℕ) → k < 65536 → get_or t k 0 ≡ count_by_id q (id_at b) k) where
  tells : (l : List NameRow) → Each NameGood l → Tells t (count_by_id q (id_at b)) l
  tells [] h = tt
  tells (r ∷ l) h = (counts r.id h.0.id, tells l h.1)

  -- the sum of all counts, and the number of rows
  pub counted-total_fits : total_count (used_counts t b.names) ≤ 4096
  counted-total_fits = omega (arith, told-total_count t _ b.names (tells b.names valid.names.each), counted-bound q (id_at b) b.names valid.ids-distinct)

  pub counted-rows-fit : length (used_in t b.names 0) ≤ 4096
  counted-rows-fit = omega (arith, used-few t b.names 0, counted-total_fits)

  -- of each name they count the nodes that bear it
  pub counted-amount : (n : List ℕ) → count_in ones (used_counts t b.names) n ≡ count_if (λ i. q i && is_named n (name_at b i)) 0 4096
  counted-amount n = told-counts t _ b.names (tells b.names valid.names.each) n ∙ by_name_lem q (id_at b) b.names valid.ids-distinct n valid.ids-mapped

  -- weighed by name, they are the nodes weighed by name
  pub counted-weight : (v : List ℕ → ℕ) → over (by_name v) (λ k. get_or t k 0) b.names ≡ sum_if q (λ i. v (name_at b i)) 0 4096
  counted-weight v =
      over-same (by_name v) (λ k. get_or t k 0) (count_by_id q (id_at b)) b.names (tells b.names valid.names.each)
      ∙ by-weight q (id_at b) b.names valid.ids-distinct v valid.ids-mapped

  -- the names clear them again
  pub counted-clear : length t ≡ 65536 → unmarked t b.names ≡ clear_table
  counted-clear long =
      let size : length (unmarked t b.names) ≡ length clear_table = cleared-length t b.names ∙ long ∙ sym clear-long in
      ext_get_or 0 _ _ size (λ i h. clear-again q (id_at b) t long counts b.names valid.ids-mapped i ∙ sym (clear_zero i))

-- The census of a block: that the calls which take it give it, and what follows from it.
use Rattle.std.proofs.Common.{◌≡◌, ℕ, ◌+◌, ◌<◌, ◌≤◌, Bool, true, false, ◌&&◌, eqb, List, [], length, get_or, sym, refl, ap, ◌∙◌, subst, inl, inr, arith}
use mathlib.Core.Bool.{and-true}
use Rattle.wire.specs.Bytes.{Bytes}
use Rattle.wire.specs.Read.{done}
use Rattle.wire.specs.Ranges.{bytes_in}
use Rattle.wire.proofs.Tests.{and_no}
use Rattle.position.specs.Spans.{in_span}
use Rattle.position.specs.declared.key.Coordinates.{Coordinates}
use Rattle.position.specs.declared.part.Part.{Part}
use Rattle.mapblock.specs.Data.{Block, NameRow}
use Rattle.mapblock.specs.Layout.{all}
use Rattle.mapblock.specs.Block.{verdict, id_at}
use Rattle.mapblock.specs.Params.{id_in, holds_lists}
use Rattle.block_reader.specs.Sections.{scanned_of}
use Rattle.block_reader.specs.Questions.{NameRun, name_at}
use Rattle.mapblock.specs.Table.{unmarked, clear_table}
use Rattle.mapblock.specs.Valid.{Valid}
use Rattle.block_reader.specs.declared.scan.Scanned.{Scanned}
use Rattle.tally.specs.Rows.{Rows, count_in, is_named}
use Rattle.tally.specs.Tally.{ones}
use Rattle.census.specs.Census.{in_part_at, Counted, Census}
use Rattle.census.specs.CountsById.{count_if, in_lot_at, count_by_id, CountsById}
use Rattle.census.specs.NamePlaces.{counted_names}
use Rattle.census.specs.NameOrder.{SortedFrom}
use Rattle.census.specs.UsedNames.{used_in, used_counts, total_count}
use Rattle.census.proofs.Counts.{count_if-same, count_if-none}
use Rattle.census.proofs.Cleared.{fresh}
use Rattle.census.proofs.PlaceSums.{sorted-from-length, sorted-from-counted, sorted-from-count, sorted-from-total_count}
use Rattle.census.proofs.ScannedBlock.{scanned-valid, scanned-names, scanned-time, lists, scanned-lists, scanned-ids}
use Rattle.census.proofs.UsedCounts.{clear_zero, clear-long, counted-total_fits, counted-rows-fit, counted-amount, counted-clear}
use Rattle.census.proofs.UsedRuns.{used-run, used-named}
use Rattle.census.proofs.UsedWalk.{unused-all}

module _ (s : List ℕ) {c : List ℕ} {w : Scanned} {b : Block} {n : ℕ} (p : Part) (at : Coordinates) (y : Bytes s) (reads : verdict all s ≡ done b n) (shows : scanned_of b ≡ w) (clear : c ≡ clear_table) where
  -- ---- the block was not saved within the span
  module _ (out : in_span p.span w.head.timestamp ≡ false) where
    none-counted : (k : ℕ) → count_by_id (in_part_at p at b) (id_at b) k ≡ 0
    none-counted k =
        count_if-none (λ i. in_part_at p at b i && eqb (id_at b i) k) 0 4096
        (λ i _ _. and_no (in_part_at p at b i) (eqb (id_at b i) k) (inl (and_no (in_lot_at p.lot at i) (in_span p.span b.head.timestamp) (inr (ap (in_span p.span) (scanned-time s y reads shows) ∙ out)))))

    pub counted_none : Counted p at b c
    counted_none = subst (Counted p at b) (sym clear) record { size = clear-long; counts = λ k h. clear_zero k ∙ sym (none-counted k) }

    pub census-none : Census p at b (bytes_in s w.sections.names) c []
    census-none = record {
      counters = counted_none;
      order = subst (λ (l : List ℕ). SortedFrom (bytes_in s w.sections.names) l []) (sym (unused-all c (λ k. ap (λ (t : List ℕ). get_or t k 0) clear ∙ clear_zero k) b.names 0)) record { rises = tt; same = λ f. refl };
      counted = tt;
    }

  -- ---- it was
  module _ (spanned : in_span p.span w.head.timestamp ≡ true) {t : List ℕ} where
    by-id : CountsById w.head.version (lists s y reads shows) p.lot at clear_table t → (k : ℕ) → k < 65536 → get_or t k 0 ≡ count_by_id (in_part_at p at b) (id_at b) k
    by-id d k h =
        fresh w.head.version (lists s y reads shows) p.lot at d clear_zero k h
        ∙ count_if-same (λ i. in_lot_at p.lot at i && eqb (id_in w.head.version (lists s y reads shows) i) k) (λ i. in_part_at p at b i && eqb (id_at b i) k) 0 4096 same
      where
        same : (i : ℕ) → 0 ≤ i → i < 0 + 4096 → (in_lot_at p.lot at i && eqb (id_in w.head.version (lists s y reads shows) i) k) ≡ (in_part_at p at b i && eqb (id_at b i) k)
        same i _ g =
            ap (λ (id : ℕ). in_lot_at p.lot at i && eqb id k) (sym (scanned-ids s y reads shows i (omega arith)))
            ∙ ap (λ (a : Bool). a && eqb (id_at b i) k) (sym (ap (λ (a : Bool). in_lot_at p.lot at i && a) (ap (in_span p.span) (scanned-time s y reads shows) ∙ spanned) ∙ and-true (in_lot_at p.lot at i)))

    -- by what counting tells of the param lists
    pub counted-some : {lists' : List ℕ} → lists' ≡ lists s y reads shows → (holds_lists w.head.version lists' ≡ true → CountsById w.head.version lists' p.lot at c t) → Counted p at b t
    counted-some g k =
        let d = subst (λ (z : List ℕ). CountsById w.head.version (lists s y reads shows) p.lot at z t) clear (rw g at k (scanned-lists s y reads shows)) in
        record { size = d.long ∙ clear-long; counts = by-id d }

-- what the calls told of the names: the places are xs before and ys after sorting
pub record Sorts (names t xs ys : List ℕ) : Type 0 where
  pub uses : (l : List NameRow) → NameRun names l → length (used_in t l 0) ≤ 4096 → xs ≡ used_in t l 0
  pub sorts : SortedFrom names xs ys

-- counters with the places of the names that they count are the census
module _ (s : List ℕ) {w : Scanned} {b : Block} {n : ℕ} (p : Part) (at : Coordinates) (y : Bytes s) (reads : verdict all s ≡ done b n) (shows : scanned_of b ≡ w) where
  by-sorts : {t xs ys : List ℕ} → Counted p at b t → Sorts (bytes_in s w.sections.names) t xs ys → Census p at b (bytes_in s w.sections.names) t ys
  by-sorts {t} {xs} {ys} d k =
      let names = bytes_in s w.sections.names in
      let rows = scanned-names s y reads shows in
      let few = counted-rows-fit b (in_part_at p at b) t (scanned-valid s y reads shows) d.counts in
      let order : SortedFrom names (used_in t b.names 0) ys = subst (λ (l : List ℕ). SortedFrom names l ys) (k.uses b.names rows few) k.sorts in
      record { counters = d; order = order; counted = sorted-from-counted order t (used-named names t b.names rows) }

  pub census-some : {names t xs ys : List ℕ} → names ≡ bytes_in s w.sections.names → Counted p at b t → Sorts names t xs ys → Census p at b (bytes_in s w.sections.names) t ys
  census-some {names} {t} {xs} {ys} e d k = by-sorts d (subst (λ (l : List ℕ). Sorts l t xs ys) e k)

-- ---- what follows, where the bytes s are the rows of names of a block that is valid
module _ {p : Part} {c : Coordinates} {b : Block} {s t places : List ℕ} (valid : Valid b) (rows : NameRun s b.names) (x : Census p c b s t places) where
  rows_run : counted_names s t (used_in t b.names 0) ≡ used_counts t b.names
  rows_run = used-run s t b.names rows

  -- there are at most as many places as nodes, and so is the sum of their counts
  pub census-few : length places ≤ 4096
  census-few = omega (arith, sorted-from-length x.order, counted-rows-fit b (in_part_at p c b) t valid x.counters.counts)

  pub census-total : total_count (counted_names s t places) ≤ 4096
  census-total = omega (arith, sorted-from-total_count x.order t, ap total_count rows_run, counted-total_fits b (in_part_at p c b) t valid x.counters.counts)

  -- of each name they count the nodes in the part that bear it
  pub census-amount : (n : List ℕ) → count_in ones (counted_names s t places) n ≡ count_if (λ i. in_part_at p c b i && is_named n (name_at b i)) 0 4096
  census-amount n = sorted-from-count x.order t n ∙ ap (λ (l : Rows ones). count_in ones l n) rows_run ∙ counted-amount b (in_part_at p c b) t valid x.counters.counts n

  -- the names clear the counters again
  pub census-clear : unmarked t b.names ≡ clear_table
  census-clear = counted-clear b (in_part_at p c b) t valid x.counters.counts x.counters.size

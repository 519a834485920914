-- A block's census added to a running tally gives the rows with what stands of the block in the part.
use Rattle.std.proofs.Common.{◌≡◌, ℕ, ◌+◌, List, [], ◌∷◌, sym, ap, ◌∙◌, subst, arith}
use Rattle.wire.specs.Bytes.{Bytes}
use Rattle.wire.specs.Ranges.{bytes_in}
use Rattle.position.specs.declared.key.Coordinates.{Coordinates}
use Rattle.position.specs.declared.part.Part.{Part}
use Rattle.mapblock.specs.Data.{Block}
use Rattle.block_reader.specs.Questions.{NameRun}
use Rattle.mapblock.specs.Table.{unmarked, all_rows}
use Rattle.mapblock.specs.Valid.{Valid}
use Rattle.block_reader.specs.declared.scan.Scanned.{Scanned}
use Rattle.block_reader.proofs.NameWalks.{all-run}
use Rattle.tally.specs.Rows.{Rows, plus, count_in, Canonical}
use Rattle.tally.specs.Tally.{ones}
use Rattle.tally.proofs.Canon.{count-plus, canonical-plus, determined}
use Rattle.census.specs.Census.{Census}
use Rattle.census.specs.NamePlaces.{counted_names}
use Rattle.census.proofs.ScannedBlock.{scanned-valid, scanned-names}
use Rattle.census.proofs.CensusTaken.{census-few, census-total, census-amount, census-clear}
use Rattle.running_tally.specs.RunningTally.{Absorbs, Absorbed}
use Rattle.running_tally.specs.declared.state.RunningTally.{RunningTally}
use Rattle.sheet.specs.Placed.{placed}
use Rattle.meter.specs.Standing.{nodes_in}
use Rattle.meter.specs.Counting.{tally_of, by_one}
use Rattle.meter.specs.Adding.{Adds, Added, with_block}
use Rattle.meter.proofs.Amounts.{count-tally}
use Rattle.meter.proofs.Blocks.{rows-canonical}
use Rattle.meter.proofs.CountedBlock.{standing-amount}
use Rattle.std.specs.Prelude.{Option}

module _ (s : List ℕ) {c t : List ℕ} {w : Scanned} {v : Option RunningTally} {b : Block} {R : Rows ones} (p : Part) (at : Coordinates) (y : Bytes s) (a : Adds s w c t v b R) where
  valid : Valid b
  valid = scanned-valid s y a.scanned.taken a.scanned.shows

  -- the counters c₁ and the places are the block's census
  module _ (names : List ℕ) (c₁ : List ℕ) (places : List ℕ) (rows : NameRun names b.names) (x : Census p at b names c₁ places) where
    may-absorb : Absorbs names c₁ places t v R
    may-absorb = record {
      runs = a.runs;
      rises = x.order.rises;
      counted = x.counted;
      total_fits = omega (arith, census-total valid rows x, a.total_fits);
      rows_fit = omega (arith, census-few valid rows x, a.rows_fit);
    }

    sum_is : Canonical ones (plus ones (counted_names names c₁ places) R) → plus ones (counted_names names c₁ places) R ≡ with_block p at b R
    sum_is g =
        determined ones (plus ones (counted_names names c₁ places) R) (with_block p at b R) g
        (canonical-plus ones (tally_of by_one (nodes_in p (placed at b ∷ []))) R (rows-canonical by_one p (placed at b ∷ []) (valid, tt)) a.runs.canonical)
        (λ n.
        count-plus ones (counted_names names c₁ places) R n
        ∙ ap (λ (i : ℕ). i + count_in ones R n) (census-amount valid rows x n ∙ sym (standing-amount p at b n) ∙ sym (count-tally by_one (nodes_in p (placed at b ∷ [])) n))
        ∙ sym (count-plus ones (tally_of by_one (nodes_in p (placed at b ∷ []))) R n))

    -- c₂ are the counters after they were cleared by the names
    added : {t' c₂ : List ℕ} {r : Option RunningTally} → (Absorbs names c₁ places t v R → Absorbed t t' r R (plus ones (counted_names names c₁ places) R)) → c₂ ≡ unmarked c₁ (all_rows names) → Added c₂ t t' r R (with_block p at b R)
    added {t'} {c₂} {r} f e = let q = f may-absorb in record {
      clear = e ∙ ap (unmarked c₁) (all-run rows) ∙ census-clear valid rows x;
      absorbed = subst (Absorbed t t' r R) (sum_is q.runs.canonical) q;
    }

  -- as the code goes about it
  pub added-block : {names c₁ c₂ places t' : List ℕ} {r : Option RunningTally} → names ≡ bytes_in s w.sections.names → Census p at b (bytes_in s w.sections.names) c₁ places
      → (Absorbs names c₁ places t v R → Absorbed t t' r R (plus ones (counted_names names c₁ places) R)) → c₂ ≡ unmarked c₁ (all_rows names) → Added c₂ t t' r R (with_block p at b R)
  added-block {names} {c₁} {places = places} n x =
      added names c₁ places (subst (λ (l : List ℕ). NameRun l b.names) (sym n) (scanned-names s y a.scanned.taken a.scanned.shows)) (subst (λ (l : List ℕ). Census p at b l c₁ places) (sym n) x)

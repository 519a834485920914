-- What stands at the places of the rows that are used.
use Rattle.std.proofs.Common.{◌≡◌, ℕ, ◌+◌, ◌≤◌, Bool, true, false, cond, eqb, List, [], ◌∷◌, length, get_or, drop, refl, ap, ◌∙◌, subst, ap₂, arith, drop-drop}
use borrow.Author.Tests.{eqb-false}
use Rattle.mapblock.specs.Data.{NameRow}
use Rattle.block_reader.specs.Questions.{NameRun}
use Rattle.block_reader.proofs.NameWalks.{run-reads, run-rest}
use Rattle.tally.specs.Rows.{Row, Rows}
use Rattle.tally.specs.Tally.{ones}
use Rattle.census.specs.NamePlaces.{row_read, row_at, count_at, named_at, counted_names}
use Rattle.census.specs.UsedNames.{used_in, used_counts, AllCounted}

module _ (s t : List ℕ) where
  -- one place more, or none
  run-one : (b : Bool) (at : ℕ) (ps : List ℕ) {r : Row ℕ} {l : Rows ones} → named_at s t at ≡ r → counted_names s t ps ≡ l → counted_names s t (cond b ps (at ∷ ps)) ≡ cond b l (r ∷ l)
  run-one true at ps e h = h
  run-one false at ps e h = ap₂ (λ (r : Row ℕ) (l : Rows ones). r ∷ l) e h

  counted-one : (b : Bool) (at : ℕ) (ps : List ℕ) → (b ≡ false → 1 ≤ count_at s t at) → AllCounted s t ps → AllCounted s t (cond b ps (at ∷ ps))
  counted-one true at ps e h = h
  counted-one false at ps e h = (e refl, h)

-- the rows from a place on
module _ (s : List ℕ) (at : ℕ) {r : NameRow} {l : List NameRow} (h : NameRun (drop at s) (r ∷ l)) where
  row_here : row_at s at ≡ r
  unfolding row_at
  row_here = ap row_read (run-reads h)

  rows_behind_lem : NameRun (drop (at + 4 + length r.name) s) l
  rows_behind_lem =
      let e : at + (4 + length r.name) ≡ at + 4 + length r.name = omega arith in
      subst (λ (b : List ℕ). NameRun b l) (drop-drop (4 + length r.name) at s ∙ ap (λ (i : ℕ). drop i s) e) (run-rest h)

run-from : (s t : List ℕ) (l : List NameRow) (at : ℕ) → NameRun (drop at s) l → counted_names s t (used_in t l at) ≡ used_counts t l
unfolding used_in used_counts
run-from s t [] at h = refl
run-from s t (r ∷ l) at h =
    run-one s t (eqb (get_or t r.id 0) 0) at (used_in t l (at + 4 + length r.name))
    (ap (λ (x : NameRow). record { name = x.name; count = get_or t x.id 0 }) (row_here s at h))
    (run-from s t l (at + 4 + length r.name) (rows_behind_lem s at h))

pub used-run : (s t : List ℕ) (l : List NameRow) → NameRun s l → counted_names s t (used_in t l 0) ≡ used_counts t l
used-run s t l h = run-from s t l 0 h

named-from : (s t : List ℕ) (l : List NameRow) (at : ℕ) → NameRun (drop at s) l → AllCounted s t (used_in t l at)
unfolding used_in
named-from s t [] at h = tt
named-from s t (r ∷ l) at h =
    counted-one s t (eqb (get_or t r.id 0) 0) at (used_in t l (at + 4 + length r.name))
    (λ e. omega (arith, eqb-false (get_or t r.id 0) 0 e, ap (λ (x : NameRow). get_or t x.id 0) (row_here s at h)))
    (named-from s t l (at + 4 + length r.name) (rows_behind_lem s at h))

pub used-named : (s t : List ℕ) (l : List NameRow) → NameRun s l → AllCounted s t (used_in t l 0)
used-named s t l h = named-from s t l 0 h

-- The loop over rows of names: what it knows, and its steps.
use Prim.Native.Nat.{ℕ, zero, suc, ◌+◌, ◌-◌, ◌<◌, ◌≤◌}
use mathlib.Core.Path.{◌≡◌, refl, ap, sym, ◌∙◌}
use mathlib.Core.List.{List, [], ◌∷◌, ◌++◌, append_assoc, append-nil}
use mathlib.Core.Bool.{Bool, true, false, cond}
use native.Mathlib.Nat.{zero-add, sub-zero}
use native.Mathlib.Omega.{arith}
use lib.Dec.{eqb}
use lib.ListN.{length, get_or, drop, set, length-drop}
use lib.Seq.{drop-drop, set-set, set_comm, set-get_or}
use borrow.Author.Tests.{eqb-true, eqb-false}
use Rattle.wire.specs.Read.{Read, done, refused, map_read, reach, map-done, map-refused}
use Rattle.wire.specs.Format.{items, read_items}
use Rattle.wire.proofs.Items.{after, items-start, items-on, items_refused, items-end}
use Rattle.wire.specs.Walk.{rows_read}
use Rattle.mapblock.specs.Data.{NameRow}
use Rattle.mapblock.specs.Layout.{without, unused, unmapped, name_row}
use Rattle.mapblock.specs.Rows.{name_fields}
use Rattle.mapblock.specs.Table.{free_in, Tabled, marked, unmarked, front_rows, RowsMarked}
use Rattle.mapblock.specs.Told.{ended}
use Rattle.mapblock.specs.declared.fault.Fault.{Fault}
use Rattle.mapblock.specs.declared.names.NameFields.{NameFields}
use Rattle.mapblock.proofs.Leaves.{told_in}
use Rattle.mapblock.proofs.Positioned.{marked-one}
use Rattle.mapblock.proofs.NameRows.{row-alone}

-- ---- the last row of a list
pub unused-last : {A : Type 0} (key : A → ℕ) (free : ℕ → Bool) (l : List A) (a : A) (n : ℕ) → unused key free (l ++ a ∷ []) n ≡ without (key a) (unused key free l) n
unfolding unused
unused-last key free [] a n = refl
unused-last key free (b ∷ l) a n = rw (unused-last key free l a n) (swap (eqb n (key b)) (eqb n (key a)) (unused key free l n))
  where
    swap : (x y z : Bool) → cond x false (cond y false z) ≡ cond y false (cond x false z)
    swap true true z = refl
    swap true false z = refl
    swap false true z = refl
    swap false false z = refl

unmarked-last : (t : List ℕ) (l : List NameRow) (r : NameRow) → unmarked t (l ++ r ∷ []) ≡ set (unmarked t l) r.id 0
unmarked-last t [] r = refl
unmarked-last t (x ∷ l) r = unmarked-last (set t x.id 0) l r

marked-last : (t : List ℕ) (l : List NameRow) (r : NameRow) → marked t (l ++ r ∷ []) ≡ set (marked t l) r.id 1
marked-last t [] r = refl
marked-last t (x ∷ l) r = marked-last (set t x.id 1) l r

-- ---- a mark that is set and taken off again
zero-set : (l : List ℕ) (i j : ℕ) → get_or l i 0 ≡ 0 → get_or (set l j 0) i 0 ≡ 0
zero-set [] i j h = h
zero-set (x ∷ l) zero zero h = refl
zero-set (x ∷ l) zero (suc j) h = h
zero-set (x ∷ l) (suc i) zero h = h
zero-set (x ∷ l) (suc i) (suc j) h = zero-set l i j h

unmarked-zero : (t : List ℕ) (l : List NameRow) (i : ℕ) → get_or t i 0 ≡ 0 → get_or (unmarked t l) i 0 ≡ 0
unmarked-zero t [] i h = h
unmarked-zero t (r ∷ l) i h = unmarked-zero (set t r.id 0) l i (zero-set t i r.id h)

set-unmarked : (t : List ℕ) (l : List NameRow) (i x : ℕ) → set (unmarked (set t i x) l) i 0 ≡ set (unmarked t l) i 0
set-unmarked t [] i x = set-set t i x 0
set-unmarked t (r ∷ l) i x = go (eqb i r.id) refl (set-unmarked (set t r.id 0) l i x)
  where
    go : (b : Bool) → eqb i r.id ≡ b → set (unmarked (set (set t r.id 0) i x) l) i 0 ≡ set (unmarked (set t r.id 0) l) i 0
        → set (unmarked (set (set t i x) r.id 0) l) i 0 ≡ set (unmarked (set t r.id 0) l) i 0
    go true e ih = rw (← eqb-true i r.id e, set-set t i x 0)
    go false e ih = rw (set_comm t i r.id x 0 (eqb-false i r.id e)) ih

undo-one : (t u : List ℕ) (l : List NameRow) (r : NameRow) → get_or t r.id 0 ≡ 0 → unmarked t l ≡ u → unmarked (set t r.id 1) (l ++ r ∷ []) ≡ u
undo-one t u l r z h =
    let i = r.id in
    let free : get_or u i 0 ≡ 0 = rw (← h) (unmarked-zero t l i z) in
    unmarked-last (set t i 1) l r ∙ set-unmarked t l i 1 ∙ ap (λ (w : List ℕ). set w i 0) h ∙ ap (λ (v : ℕ). set u i v) (sym free) ∙ set-get_or u i 0

-- ---- the loop
pub record Named (t₀ s : List ℕ) (count : ℕ) (t : List ℕ) (at past : ℕ) : Type 0 where
  pub pre : List NameRow
  pub seen : List NameRow
  pub reads : after pre at (read_items (name_row (free_in t₀)) (count - past) seen (drop at s)) ≡ (items (name_row (free_in t₀)) count).read s
  pub tabled : Tabled 65536 (unmapped (free_in t₀) seen) t
  pub is : t ≡ marked t₀ pre
  pub undone : unmarked t pre ≡ t₀
  pub same : (id : ℕ) → unmapped (free_in t₀) pre id ≡ unmapped (free_in t₀) seen id
  pub fronts : (m : ℕ) → front_rows (past + m) s ≡ pre ++ front_rows m (drop at s)
  pub size : at ≤ length s

pub named_start : (t₀ s : List ℕ) (count : ℕ) → length t₀ ≡ 65536 → Named t₀ s count t₀ 0 0
unfolding unused
named_start t₀ s count h = record {
  pre = [];
  seen = [];
  reads = rw sub-zero (items-start (name_row (free_in t₀)) count s);
  tabled = record { size = h; tells = λ i l. refl };
  is = refl;
  undone = refl;
  same = λ id. refl;
  fronts = λ m. rw zero-add refl;
  size = omega arith;
}

module _ {t₀ s : List ℕ} {count : ℕ} {t : List ℕ} {at past : ℕ} (w : Named t₀ s count t at past) where
  abbrev row_there : Read Fault NameRow
  row_there = (name_row (free_in t₀) w.seen).read (drop at s)

  pub named-place : {r : Read Fault NameFields} → r ≡ map_read name_fields row_there → at + reach r ≤ length s
  named-place {r} h =
      let i : reach r ≤ length (drop at s) = told_in name_fields (name_row (free_in t₀) w.seen) (drop at s) h in
      omega (arith, w.size, i, length-drop at s)

  -- the rows that were read stand in front
  pub named-front : unmarked t (front_rows past s) ≡ t₀
  unfolding rows_read
  named-front =
      let z : past + 0 ≡ past = omega arith in
      let e : front_rows past s ≡ w.pre = ap (λ (k : ℕ). front_rows k s) (sym z) ∙ w.fronts 0 ∙ append-nil w.pre in
      ap (unmarked t) e ∙ w.undone

  pub named_end : count ≤ past → (done tt at ≡ ended ((items (name_row (free_in t₀)) count).read s)) × RowsMarked t₀ t ((items (name_row (free_in t₀)) count).read s)
  named_end h =
      let z : count - past ≡ 0 = omega arith in
      let e : (items (name_row (free_in t₀)) count).read s ≡ done w.pre at = sym w.reads ∙ items-end (name_row (free_in t₀)) (count - past) w.pre w.seen at (drop at s) z in
      let tab : Tabled 65536 (unmapped (free_in t₀) w.pre) t = record { size = w.tabled.size; tells = λ i l. w.same i ∙ w.tabled.tells i l } in
      rw e (refl, record { is = w.is; tabled = tab; undone = w.undone })

  module _ (h : past < count) where
    pub named-refused : {e : Fault} {p : ℕ} {u : List ℕ} → refused e p ≡ map_read name_fields row_there → u ≡ t₀
        → (refused e (at + p) ≡ ended ((items (name_row (free_in t₀)) count).read s)) × RowsMarked t₀ u ((items (name_row (free_in t₀)) count).read s)
    named-refused {e} {p} k g =
        let x = map-refused name_fields row_there e p (sym k) in
        let left : 0 < count - past = omega arith in
        let r : (items (name_row (free_in t₀)) count).read s ≡ refused e (at + p) = sym w.reads ∙ items_refused (name_row (free_in t₀)) (count - past) w.pre w.seen at (drop at s) left x in
        rw r (refl, g)

    pub named-on : {row : NameFields} {n : ℕ} → done row n ≡ map_read name_fields row_there → row.id < 65536
        → Named t₀ s count (set t row.id 1) (at + n) (past + 1)
    unfolding rows_read unused
    named-on {row} {n} k l =
        let x = map-done name_fields row_there row n (sym k) in
        let a = x.0 in
        let i : a.id ≡ row.id = ap (λ (f : NameFields). f.id) x.2 in
        let alone = row-alone (free_in t₀) w.seen (drop at s) x.1 in
        let m : a.id < 65536 = rw i l in
        let z : get_or t a.id 0 ≡ 0 = eqb-true _ _ (sym (w.tabled.tells a.id m) ∙ alone.1) in
        let left : 0 < count - past = omega arith in
        let next : count - past - 1 ≡ count - (past + 1) = omega arith in
        rw (← i) record {
          pre = w.pre ++ a ∷ [];
          seen = a ∷ w.seen;
          reads = rw (← next, ← drop-drop n at s) (sym (items-on (name_row (free_in t₀)) (count - past) w.pre w.seen at (drop at s) left x.1) ∙ w.reads);
          tabled = marked-one 65536 (unmapped (free_in t₀) w.seen) t a.id m w.tabled;
          is = ap (λ (l : List ℕ). set l a.id 1) w.is ∙ sym (marked-last t₀ w.pre a);
          undone = undo-one t t₀ w.pre a z w.undone;
          same = λ id. unused-last (λ (r : NameRow). r.id) (free_in t₀) w.pre a id ∙ ap (λ (b : Bool). cond (eqb id a.id) false b) (w.same id);
          fronts = λ m.
              let c : past + 1 + m ≡ past + suc m = omega arith in
              let e : front_rows (suc m) (drop at s) ≡ a ∷ front_rows m (drop n (drop at s)) = rw alone.0 in
              rw (← drop-drop n at s)
              (ap (λ (j : ℕ). front_rows j s) c ∙ w.fronts (suc m) ∙ ap (λ (y : List NameRow). w.pre ++ y) e
              ∙ sym (append_assoc w.pre (a ∷ []) (front_rows m (drop n (drop at s)))));
          size = named-place k;
        }

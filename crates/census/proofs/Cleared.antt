-- A table that is cleared by the rows of names that it was counted for.
use Rattle.std.proofs.Common.{◌≡◌, ℕ, zero, suc, ◌-◌, ◌<◌, ◌≤◌, Bool, true, false, ◌&&◌, eqb, ltb, ◌⊎◌, List, [], ◌∷◌, length, get_or, take, drop, set, sym, refl, ap, ◌∙◌, inl, inr, arith, length-set, get_or-set_other, ltb-false, ltb-true, ne_eqb, eqb-true}
use lib.ListN.{get_or-eq_default}
use borrow.Author.Tests.{eqb-false}
use Rattle.wire.proofs.Tests.{and_no}
use Rattle.wire.proofs.Lists.{rest-is}
use Rattle.wire.specs.Bytes.{Bytes, bytes_drop}
use Rattle.wire.specs.Read.{done, map_read}
use Rattle.position.specs.declared.key.Coordinates.{Coordinates}
use Rattle.position.specs.declared.lot.Lot.{Lot}
use Rattle.mapblock.specs.Data.{NameRow}
use Rattle.mapblock.specs.Layout.{all, name_row}
use Rattle.mapblock.specs.Params.{id_in}
use Rattle.mapblock.specs.Rows.{name_fields}
use Rattle.mapblock.specs.Table.{unmarked, all_rows}
use Rattle.mapblock.specs.Valid.{Has}
use Rattle.mapblock.specs.declared.names.NameFields.{NameFields}
use Rattle.block_reader.proofs.NameWalks.{first-row}
use Rattle.census.specs.CountsById.{in_lot_at, CountsById, count_by_id, row_id}
use Rattle.census.proofs.Counts.{count_if-none}
use Rattle.census.proofs.CountsByName.{by-id-bound}

-- ---- the walk over the rows
-- Clearing the ids of the rows that are left gives what clearing all of them gives.
pub record Clearing (names rest old t : List ℕ) : Type 0 where
  pub left : unmarked t (all_rows rest) ≡ unmarked old (all_rows names)
  pub bytes : Bytes rest

pub clearing-start : (names old : List ℕ) → Bytes names → Clearing names names old old
clearing-start names old w = record { left = refl; bytes = w }

module _ {names rest old t : List ℕ} (f : Clearing names rest old t) where
  pub clearing-none : all_rows rest ≡ [] → t ≡ unmarked old (all_rows names)
  clearing-none e = ap (unmarked t) (sym e) ∙ f.left

  pub clearing-on : {row : NameFields} {n : ℕ} → done row n ≡ map_read name_fields ((name_row all []).read rest) → Clearing names (take (length rest - n) (drop n rest)) old (set t row.id 0)
  clearing-on {row} {n} k =
      let y = first-row rest f.bytes k in
      rw (rest-is n rest) record {
        left = ap (λ (w : NameFields). unmarked (set t w.id 0) (all_rows (drop n rest))) (sym y.fields) ∙ ap (unmarked t) (sym y.rows) ∙ f.left;
        bytes = bytes_drop n rest f.bytes;
      }

-- ---- a table whose counters are 0 but for the mapped ids is cleared whole
set-zero : (t : List ℕ) (i : ℕ) → get_or (set t i 0) i 0 ≡ 0
set-zero [] i = refl
set-zero (x ∷ t) zero = refl
set-zero (x ∷ t) (suc i) = set-zero t i

pub cleared : (t : List ℕ) (l : List NameRow) → ((k : ℕ) → (Has row_id k l → ⊥) → get_or t k 0 ≡ 0) → (k : ℕ) → get_or (unmarked t l) k 0 ≡ 0
cleared t [] h k = h k (λ x. x)
cleared t (r ∷ l) h k = cleared (set t r.id 0) l (λ i g. go i g (eqb i r.id) refl) k
  where
    go : (i : ℕ) → (Has row_id i l → ⊥) → (b : Bool) → eqb i r.id ≡ b → get_or (set t r.id 0) i 0 ≡ 0
    go i g true e = rw (eqb-true i r.id e) (set-zero t r.id)
    go i g false e =
        get_or-set_other t r.id i 0 0 (eqb-false i r.id e)
        ∙ h i (λ (x : Has row_id i (r ∷ l)). either x)
      where
        either : (r.id ≡ i) ⊎ Has row_id i l → ⊥
        either (inl q) = eqb-false i r.id e (sym q)
        either (inr q) = g q

pub cleared-length : (t : List ℕ) (l : List NameRow) → length (unmarked t l) ≡ length t
cleared-length t [] = refl
cleared-length t (r ∷ l) = cleared-length (set t r.id 0) l ∙ length-set t r.id 0

-- ---- counters that were clear before the nodes were counted
module _ (v : ℕ) (s : List ℕ) (lot : Lot) (at : Coordinates) {old new : List ℕ} (c : CountsById v s lot at old new) (zeros : (k : ℕ) → get_or old k 0 ≡ 0) where
  pub fresh : (k : ℕ) → k < 65536 → get_or new k 0 ≡ count_by_id (in_lot_at lot at) (id_in v s) k
  fresh k h = omega (arith, c.each k h, zeros k, by-id-bound (in_lot_at lot at) (id_in v s) k)

-- they are clear again, where every counted id is mapped
module _ (q : ℕ → Bool) (ids : ℕ → ℕ) (t : List ℕ) (size : length t ≡ 65536) (counts : (k : ℕ) → k < 65536 → get_or t k 0 ≡ count_by_id q ids k) where
  pub clear-again : (l : List NameRow) → ((i : ℕ) → i < 4096 → Has row_id (ids i) l) → (k : ℕ) → get_or (unmarked t l) k 0 ≡ 0
  clear-again l mapped = cleared t l λ k h. go k h (ltb k 65536) refl
    where
      none : (k : ℕ) → (Has row_id k l → ⊥) → count_by_id q ids k ≡ 0
      none k h =
          count_if-none (λ i. q i && eqb (ids i) k) 0 4096
          (λ i _ g. and_no (q i) (eqb (ids i) k) (inr (ne_eqb (ids i) k (λ e. h (rw e at (mapped i (omega arith)))))))

      go : (k : ℕ) → (Has row_id k l → ⊥) → (b : Bool) → ltb k 65536 ≡ b → get_or t k 0 ≡ 0
      go k h true e = counts k (ltb-true k 65536 e) ∙ none k h
      go k h false e = let beyond : length t ≤ k = omega (arith, ltb-false k 65536 e, size) in get_or-eq_default t 0 beyond

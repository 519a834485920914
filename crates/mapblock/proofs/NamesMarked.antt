-- The table after rows of names were read, by what was read alone: it marks their ids beside those that were marked, and can be put back.
use Prim.Native.Nat.{ℕ, zero, suc, ◌+◌, ◌<◌}
use mathlib.Core.Path.{◌≡◌, refl, ap, sym, subst, subst⁻¹}
use mathlib.Core.List.{List, []}
use native.Mathlib.Omega.{arith}
use lib.ListN.{length, drop, set}
use Rattle.wire.specs.Bytes.{Bytes, bytes_drop}
use Rattle.wire.specs.Read.{Read, done, refused, map_read}
use Rattle.wire.specs.Format.{items}
use Rattle.mapblock.specs.Data.{NameRow}
use Rattle.mapblock.specs.Layout.{all, name_row}
use Rattle.mapblock.specs.Rows.{name_fields}
use Rattle.mapblock.specs.Table.{free_in, marked_by, RowsMarked}
use Rattle.mapblock.specs.Told.{ended}
use Rattle.mapblock.specs.declared.fault.Fault.{Fault}
use Rattle.mapblock.proofs.GoodRows.{name-ok}
use Rattle.mapblock.proofs.NameRows.{row-alone}
use Rattle.mapblock.proofs.NameLoop.{Named, named_start, named_end, named-refused, named-on}

pub marked-is : (t u : List ℕ) (r : Read Fault (List NameRow)) → RowsMarked t u r → u ≡ marked_by t r
marked-is t u (done l n) h = h.is
marked-is t u (refused e p) h = h

module _ (t s : List ℕ) (count : ℕ) where
  abbrev rows : Read Fault (List NameRow)
  rows = (items (name_row (free_in t)) count).read s

  -- the id of a row has two bytes
  id_below : (seen : List NameRow) (rest : List ℕ) (a : NameRow) (n : ℕ) → Bytes rest → (name_row (free_in t) seen).read rest ≡ done a n → a.id < 65536
  id_below seen rest a n b e =
      let k = (name_row all []).backward rest a n b (row-alone (free_in t) seen rest e).0 in
      ((name-ok [] a).0 k.ok).0.id

  -- what is left to read decides what the table holds in the end
  abbrev Ends : ℕ → Type 0
  Ends k = (u : List ℕ) (at past : ℕ) → past + k ≡ count → Named t s count u at past → (z : List ℕ) × RowsMarked t z rows

  walked : Bytes s → (k : ℕ) → Ends k
  walked b zero u at past l w = (u, (named_end w (omega arith)).1)
  walked b (suc k) u at past l w = by_row (walked b k) ((name_row (free_in t) w.seen).read (drop at s)) refl
    where
      by_row : Ends k → (r : Read Fault NameRow) → (name_row (free_in t) w.seen).read (drop at s) ≡ r → (z : List ℕ) × RowsMarked t z rows
      by_row next (refused e p) q = (t, (named-refused w (omega arith) (sym (ap (map_read name_fields) q)) refl).1)
      by_row next (done a n) q =
          let on = named-on w (omega arith) (sym (ap (map_read name_fields) q)) (id_below w.seen (drop at s) a n (bytes_drop at s b) q) in
          next (set u a.id 1) (at + n) (past + 1) (omega arith) on

  pub marked-rows : {u : List ℕ} → length t ≡ 65536 → Bytes s → u ≡ marked_by t rows → RowsMarked t u rows
  marked-rows h b e =
      let x = walked b count t 0 0 (omega arith) (named_start t s count h) in
      subst⁻¹ (λ (z : List ℕ). RowsMarked t z rows) e (subst (λ (z : List ℕ). RowsMarked t z rows) (marked-is t x.0 rows x.1) x.1)

  -- the answer, the table and its length
  pub told-marked : {u : List ℕ} {r : Read Fault (Unit {0})} → length t ≡ 65536 → (r ≡ ended rows) × RowsMarked t u rows
      → (r ≡ ended rows) × ((u ≡ marked_by t rows) × (length t ≡ 65536))
  told-marked {u} h k = (k.0, (marked-is t u rows k.1, h))

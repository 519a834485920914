-- Rows of names, field by field.
use Prim.Native.Nat.{ℕ, zero, suc, ◌+◌, ◌-◌, ◌<◌}
use mathlib.Core.Path.{◌≡◌, refl, ap, sym, ◌∙◌}
use mathlib.Core.List.{List, []}
use mathlib.Core.Bool.{Bool, true, false}
use native.Mathlib.Numerals.{sub-one}
use native.Mathlib.Omega.{arith}
use lib.ListN.{length, take, drop, set}
use Rattle.wire.specs.Read.{Read, done, refused, map_read, not_done, map-done, map-refused}
use Rattle.wire.specs.Format.{refine, ◌⨾◌, iso}
use Rattle.wire.specs.Formats.{u16, prefixed}
use Rattle.wire.specs.Walk.{rows_read}
use Rattle.mapblock.specs.Data.{NameRow}
use Rattle.mapblock.specs.Layout.{all, unused, unmapped, name_row}
use Rattle.wire.specs.Ranges.{range_at}
use Rattle.mapblock.specs.Rows.{name_fields}
use Rattle.mapblock.specs.Table.{unmarked, front_rows}
use Rattle.mapblock.specs.declared.names.NameFields.{NameFields}
use Rattle.mapblock.proofs.Leaves.{run_length}
use Rattle.mapblock.specs.declared.fault.Fault.{Fault}
use Rattle.mapblock.specs.declared.fault.Fault.TheVariants as fault

module _ (free : ℕ → Bool) (seen : List NameRow) (s : List ℕ) where
  pub row-no-id : {e : Fault} {p : ℕ} → (u16 {ends = fault.Ends}).read s ≡ refused e p → (name_row free seen).read s ≡ refused e p
  unfolding name_row iso ◌⨾◌ refine
  row-no-id h = rw h

  pub row-twice : {id n : ℕ} → (u16 {ends = fault.Ends}).read s ≡ done id n → unmapped free seen id ≡ false → (name_row free seen).read s ≡ refused fault.IdTwice 0
  unfolding name_row iso ◌⨾◌ refine
  row-twice h m = rw (h, m)

  module _ {id n : ℕ} (h : (u16 {ends = fault.Ends}).read s ≡ done id n) (m : unmapped free seen id ≡ true) where
    pub row-no-name : {e : Fault} {p : ℕ} → (prefixed {ends = fault.Ends} 2).read (drop n s) ≡ refused e p → (name_row free seen).read s ≡ refused e (n + p)
    unfolding name_row iso ◌⨾◌ refine
    row-no-name k = rw (h, m, k)

    pub row_done : {name : List ℕ} {q : ℕ} → (prefixed {ends = fault.Ends} 2).read (drop n s) ≡ done name q
        → (name_row free seen).read s ≡ done (record { id = id; name = name }) (n + q)
    unfolding name_row iso ◌⨾◌ refine
    row_done k = rw (h, m, k)

-- ---- a row alone, as it is told
module _ (s : List ℕ) where
  alone-free : (id : ℕ) → unmapped all [] id ≡ true
  unfolding unused
  alone-free id = refl

  pub alone-no-id : {e : Fault} {p : ℕ} → (u16 {ends = fault.Ends}).read s ≡ refused e p → refused e p ≡ map_read name_fields ((name_row all []).read s)
  alone-no-id h = sym (ap (map_read name_fields) (row-no-id all [] s h))

  module _ {id : ℕ} (h : (u16 {ends = fault.Ends}).read s ≡ done id 2) where
    pub alone-no-name : {e : Fault} {p : ℕ} → (prefixed {ends = fault.Ends} 2).read (drop 2 s) ≡ refused e p → refused e (2 + p) ≡ map_read name_fields ((name_row all []).read s)
    alone-no-name k = sym (ap (map_read name_fields) (row-no-name all [] s h (alone-free id) k))

    pub alone-done : {n : ℕ} → (prefixed {ends = fault.Ends} 2).read (drop 2 s) ≡ done (take n (drop 2 (drop 2 s))) (2 + n)
        → done (record { id = id; name = range_at 4 n }) (4 + n) ≡ map_read name_fields ((name_row all []).read s)
    alone-done {n} k =
        let size : length (take n (drop 2 (drop 2 s))) ≡ n = run_length 2 n (drop 2 s) k in
        let end : 4 + n ≡ 2 + (2 + n) = omega arith in
        let z : name_fields (record { id = id; name = take n (drop 2 (drop 2 s)) }) ≡ record { id = id; name = range_at 4 n } = rw size in
        sym (ap (map_read name_fields) (row_done all [] s h (alone-free id) k) ∙ rw (z, end))

-- ---- a row whose id is new, and one whose id is not
module _ (free : ℕ → Bool) (seen : List NameRow) (s : List ℕ) where
  pub row-as-alone : {id n : ℕ} → (u16 {ends = fault.Ends}).read s ≡ done id n → unmapped free seen id ≡ true → (name_row all []).read s ≡ (name_row free seen).read s
  unfolding name_row iso ◌⨾◌ refine unused
  row-as-alone h m = rw (h, m)

  -- what was read has a new id, and is read alone too
  pub row-alone : {r : NameRow} {n : ℕ} → (name_row free seen).read s ≡ done r n → ((name_row all []).read s ≡ done r n) × (unmapped free seen r.id ≡ true)
  row-alone {r} {n} h = by-id (u16.read s) refl
    where
      Out : Type 0
      Out = ((name_row all []).read s ≡ done r n) × (unmapped free seen r.id ≡ true)

      by_name_lem : (id m : ℕ) → (u16 {ends = fault.Ends}).read s ≡ done id m → unmapped free seen id ≡ true → (y : Read Fault (List ℕ))
          → (prefixed {ends = fault.Ends} 2).read (drop m s) ≡ y → Out
      by_name_lem id m e f (refused k p) g = not_done (sym (row-no-name free seen s e f g) ∙ h)
      by_name_lem id m e f (done name q) g =
          let z : done (record { id = id; name = name }) (m + q) ≡ done r n = sym (row_done free seen s e f g) ∙ h in
          let same : id ≡ r.id = cc in
          (row-as-alone e f ∙ h, rw (← same) f)

      by-test : (id m : ℕ) → (u16 {ends = fault.Ends}).read s ≡ done id m → (b : Bool) → unmapped free seen id ≡ b → Out
      by-test id m e true f = by_name_lem id m e f ((prefixed 2).read (drop m s)) refl
      by-test id m e false f = not_done (sym (row-twice free seen s e f) ∙ h)

      by-id : (x : Read Fault ℕ) → (u16 {ends = fault.Ends}).read s ≡ x → Out
      by-id (refused k p) e = not_done (sym (row-no-id free seen s e) ∙ h)
      by-id (done id m) e = by-test id m e (unmapped free seen id) refl

-- ---- rows from the front
fields-done : (x : Read Fault NameRow) {row : NameFields} {n : ℕ} → map_read name_fields x ≡ done row n → (r : NameRow) × (x ≡ done r n) × (name_fields r ≡ row)
fields-done x {row} {n} h = map-done name_fields x row n h

module _ (t s : List ℕ) where
  pub front-none : (k : ℕ) → k ≡ 0 → unmarked t (front_rows k s) ≡ t
  unfolding rows_read
  front-none k h = rw h

  pub front-stop : (k : ℕ) {f : Fault} {p : ℕ} → map_read name_fields ((name_row all []).read s) ≡ refused f p → unmarked t (front_rows k s) ≡ t
  unfolding rows_read
  front-stop zero h = refl
  front-stop (suc k) {f} {p} h = rw (map-refused name_fields ((name_row all []).read s) f p h)

  pub front-on : (k : ℕ) {row : NameFields} {n : ℕ} → 0 < k → map_read name_fields ((name_row all []).read s) ≡ done row n
      → unmarked t (front_rows k s) ≡ unmarked (set t row.id 0) (front_rows (k - 1) (drop n s))
  unfolding rows_read
  front-on zero l h = absurd (omega arith)
  front-on (suc k) {row} {n} l h =
      let x = fields-done ((name_row all []).read s) h in
      let same : x.0.id ≡ row.id = ap (λ (f : NameFields). f.id) x.2 in
      rw (x.1, sub-one) (ap (λ (i : ℕ). unmarked (set t i 0) (front_rows k (drop n s))) same)

-- Timestamp and names: one law for each way on.
use Prim.Native.Nat.{ℕ, zero, suc, ◌+◌}
use mathlib.Core.Path.{◌≡◌, refl, ap, sym, ◌∙◌}
use mathlib.Core.List.{List, [], ◌∷◌}
use mathlib.Core.Bool.{Bool}
use native.Mathlib.Omega.{arith}
use lib.ListN.{length, drop}
use lib.Seq.{drop-drop}
use Rattle.wire.specs.Read.{Read, done, refused, map_read, shift, bind_done, shift-done}
use Rattle.wire.specs.Format.{◌⨾◌, iso, items, read_items, pair}
use Rattle.wire.specs.Formats.{listed}
use Rattle.mapblock.specs.Inventory.{BlockFormat}
use Rattle.mapblock.specs.Data.{NameRow, name_mapping_shape}
use Rattle.mapblock.specs.Layout.{name_row, name_mapping}
use Rattle.mapblock.specs.Table.{free_in, NamesMarked, RowsMarked, NameMappingMarked}
use Rattle.mapblock.specs.Told.{ended, names_head, shown_mapping}
use Rattle.mapblock.specs.declared.names.NamesHead.{NamesHead}
use Rattle.mapblock.specs.declared.fault.Fault.{Fault}
use Rattle.mapblock.specs.declared.fault.Fault.TheVariants as fault
use Rattle.wire.proofs.Fixed.{fixed_on, fixed-other, fixed-refused}
use Rattle.wire.proofs.Joints.{listed-refused, listed-done}
use Rattle.mapblock.proofs.Readings.{num, ended-refused, ended-done}

-- so many items as were asked for
pub read_length : {A : Type 0} (item : List A → BlockFormat A) (k : ℕ) (seen : List A) (s : List ℕ) {l : List A} {n : ℕ} → read_items item k seen s ≡ done l n → length l ≡ k
unfolding read_items
read_length item zero seen s h = cc
read_length {A} item (suc k) seen s {l} {n} h =
    let x = bind_done ((item seen).read s) _ l n h in
    let y = shift-done x.1 (λ (m : List A). x.0 ∷ m) (read_items item k (x.0 ∷ seen) (drop x.1 s)) l n x.3 in
    sym (ap (length {A = A}) y.3) ∙ ap suc (read_length item k (x.0 ∷ seen) (drop x.1 s) y.2)

module _ (free : ℕ → Bool) (s : List ℕ) where
  abbrev names : BlockFormat (List NameRow)
  names = listed 2 (name_row free)

  pub name-mapping-no-time : {e : Fault} {p : ℕ} → (num 4).read s ≡ refused e p → (name_mapping free).read s ≡ refused e p
  unfolding name_mapping iso ◌⨾◌
  name-mapping-no-time h = rw h

  module _ {time : ℕ} (h : (num 4).read s ≡ done time 4) where
    pub name-mapping-no-version : {e : Fault} {p : ℕ} → (num 1).read (drop 4 s) ≡ refused e p → (name_mapping free).read s ≡ refused e (4 + p)
    unfolding name_mapping iso ◌⨾◌
    name-mapping-no-version k = rw (h, fixed-refused fault.Ends 1 0 fault.MappingVersion names (drop 4 s) k)

    pub name-mapping-other : {x : ℕ} → (num 1).read (drop 4 s) ≡ done x 1 → (x ≡ 0 → ⊥) → (name_mapping free).read s ≡ refused fault.MappingVersion 4
    unfolding name_mapping iso ◌⨾◌
    name-mapping-other k n = rw (h, fixed-other fault.Ends 1 0 fault.MappingVersion names (drop 4 s) k n)

    module _ (z : (num 1).read (drop 4 s) ≡ done 0 1) where
      behind-byte : {r : Read Fault (List NameRow)} → names.read (drop 5 s) ≡ r → (name_mapping free).read s ≡ map_read name_mapping_shape.make (shift 4 (pair time) (shift 1 (λ l. l) r))
      unfolding name_mapping iso ◌⨾◌
      behind-byte k = rw (h, fixed_on fault.Ends 1 0 fault.MappingVersion names (drop 4 s) z, drop-drop 1 4 s, k)

      pub name-mapping-no-count : {e : Fault} {p : ℕ} → (num 2).read (drop 5 s) ≡ refused e p → (name_mapping free).read s ≡ refused e (4 + (1 + p))
      name-mapping-no-count k = behind-byte (listed-refused 2 (name_row free) (drop 5 s) k)

      module _ {count : ℕ} (k : (num 2).read (drop 5 s) ≡ done count 2) where
        behind-count : {r : Read Fault (List NameRow)} → (items (name_row free) count).read (drop 7 s) ≡ r → names.read (drop 5 s) ≡ shift 2 (λ l. l) r
        behind-count g = listed-done 2 (name_row free) (drop 5 s) k ∙ ap (shift 2 (λ l. l)) (ap (items (name_row free) count).read (drop-drop 2 5 s) ∙ g)

        pub name-mapping-refused : {e : Fault} {p : ℕ} → (items (name_row free) count).read (drop 7 s) ≡ refused e p → (name_mapping free).read s ≡ refused e (7 + p)
        name-mapping-refused {p = p} g = let q : 4 + (1 + (2 + p)) ≡ 7 + p = omega arith in behind-byte (behind-count g) ∙ rw q

        pub name-mapping-done : {l : List NameRow} {n : ℕ} → (items (name_row free) count).read (drop 7 s) ≡ done l n
            → (name_mapping free).read s ≡ done (record { timestamp = time; names = l }) (7 + n)
        name-mapping-done {n = n} g = let q : 4 + (1 + (2 + n)) ≡ 7 + n = omega arith in behind-byte (behind-count g) ∙ rw q

-- ---- the answer, and the table with it
abbrev SavedTold : List ℕ → List ℕ → List ℕ → Read Fault NamesHead → Type 0
SavedTold t u s r = (r ≡ map_read shown_mapping ((name_mapping (free_in t)).read s)) × NameMappingMarked t u ((name_mapping (free_in t)).read s)

module _ (t s : List ℕ) where
  pub told-refused : {e : Fault} {p : ℕ} → (name_mapping (free_in t)).read s ≡ refused e p → SavedTold t t s (refused e p)
  told-refused h = rw h (refl, refl)

  module _ {time count : ℕ} (h : (num 4).read s ≡ done time 4) (z : (num 1).read (drop 4 s) ≡ done 0 1) (k : (num 2).read (drop 5 s) ≡ done count 2) where
    abbrev rows : Read Fault (List NameRow)
    rows = (items (name_row (free_in t)) count).read (drop 7 s)

    pub told-no-rows : (u : List ℕ) {e : Fault} {p : ℕ} → refused e p ≡ ended rows → RowsMarked t u rows → SavedTold t u s (refused e (7 + p))
    told-no-rows u g m =
        let x = ended-refused rows g in
        let same : u ≡ t = rw x at m in
        rw (name-mapping-refused (free_in t) s h z k x) (refl, same)

    pub told-rows : (u : List ℕ) {n : ℕ} → done tt n ≡ ended rows → RowsMarked t u rows → SavedTold t u s (done (names_head time count) (7 + n))
    unfolding items
    told-rows u g m =
        let x = ended-done rows g in
        let marked : NamesMarked t u x.0 = rw x.1 at m in
        let size : length x.0 ≡ count = read_length (name_row (free_in t)) count [] (drop 7 s) x.1 in
        rw (name-mapping-done (free_in t) s h z k x.1) (rw size, marked)

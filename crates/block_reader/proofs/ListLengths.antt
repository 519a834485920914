-- The lists of a block: how long they are, and where their rows stand.
use Prim.Native.Nat.{ℕ, zero, suc, ◌+◌, ◌-◌, ◌≤◌}
use mathlib.Core.Path.{◌≡◌, refl, ap, sym, subst, subst⁻¹, ◌∙◌}
use mathlib.Core.List.{List, [], ◌∷◌, ◌++◌}
use mathlib.Core.Bool.{Bool, true, false, cond}
use native.Mathlib.Omega.{arith}
use lib.Dec.{leb}
use lib.ListN.{length, take, drop, length-append}
use lib.Seq.{drop-drop}
use borrow.Author.Tests.{le-leb}
use Rattle.wire.specs.Bytes.{Bytes, from_be, to_be-length}
use Rattle.wire.specs.Read.{Read, done, refused, map_read, shift, not_done, map-done, bind_done, shift-done}
use Rattle.wire.specs.Format.{run, nothing, refine, ◌⨾◌, iso, items, encode_items, read_items, pair, next}
use Rattle.wire.specs.Formats.{number, behind, fixed, listed, only, tagged}
use Rattle.mapblock.specs.Inventory.{BlockFormat}
use Rattle.wire.specs.Walk.{rows_read}
use Rattle.mapblock.specs.Data.{NameRow, MetadataList, ObjectRow, TimerRow, NameMapping, Timers, no_timers, name_mapping_shape, timers_shape}
use Rattle.mapblock.specs.Layout.{since, before, all, name_row, metadata_row, object_row, timer_row, name_mapping, list_version_bytes, is_counted, list_form, metadata, objects, timer_byte_field, has_timers, timers_of24, early_timers, late_timers}
use Rattle.mapblock.specs.Table.{free_in, unmarked, front_rows, NamesMarked}
use Rattle.block_reader.specs.Scan.{metadata_head}
use Rattle.mapblock.specs.declared.fault.Fault.{Fault}
use Rattle.mapblock.specs.declared.fault.Fault.TheVariants as fault
use Rattle.wire.proofs.Fixed.{fixed-done}
use Rattle.wire.proofs.Joints.{listed-refused, listed-done}
use Rattle.mapblock.proofs.Readings.{num}
use Rattle.mapblock.proofs.NameMappings.{read_length}
use Rattle.mapblock.proofs.NameRows.{row-alone}

-- ---- numbers, and lists behind a number that is fixed
pub num-length : (k v : ℕ) → length ((num k).encode v) ≡ k
unfolding number iso run
num-length k v = to_be-length k v

pub num-takes : (k : ℕ) (s : List ℕ) {v n : ℕ} → (num k).read s ≡ done v n → n ≡ k
unfolding number iso run
num-takes k s {v} {n} h = go (leb k (length s)) h
  where
    go : (b : Bool) → map_read (from_be 0) (cond b (done (take k s) k) (refused fault.Ends 0)) ≡ done v n → n ≡ k
    go true e = cc
    go false e = not_done e

-- two that were read one after the other
pub then-parts : {A B : Type 0} (f : BlockFormat A) (g : A → BlockFormat B) (s : List ℕ) {x : A × B} {n : ℕ} → (f ⨾ g).read s ≡ done x n
    → (i : ℕ) × (j : ℕ) × (f.read s ≡ done x.0 i) × ((g x.0).read (drop i s) ≡ done x.1 j) × (i + j ≡ n)
unfolding ◌⨾◌
then-parts {A} {B} f g s {x} {n} h =
    let y = bind_done (f.read s) (next g s) x n h in
    let z = shift-done y.1 (pair y.0) ((g y.0).read (drop y.1 s)) x n y.3 in
    let w = subst (λ (w : A × B). (f.read s ≡ done w.0 y.1) × ((g w.0).read (drop y.1 s) ≡ done w.1 z.1)) z.3 (y.2, z.2) in
    (y.1, z.1, w.0, w.1, z.4)

module _ {A : Type 0} (k : ℕ) (item : List A → BlockFormat A) where
  listed-length : (l : List A) → length ((listed k item).encode l) ≡ k + length (encode_items item [] l)
  unfolding listed iso ◌⨾◌ items
  listed-length l = rw (length-append, num-length k (length l))

  fixed-length : (j v : ℕ) (e : Fault) (l : List A) → length ((fixed j v e (listed k item)).encode l) ≡ j + (k + length (encode_items item [] l))
  unfolding behind iso ◌⨾◌ refine
  fixed-length j v e l = rw (length-append, num-length j v, listed-length l)

  -- behind a tag, where the list is written or has no items
  tagged-length : (tag : BlockFormat ℕ) (test : ℕ → Bool) (t : ℕ) (l : List A) → (only (test t) [] (listed k item)).Ok l
      → length ((tagged tag test [] (listed k item)).encode (t, l)) ≡ length (tag.encode t) + (cond (test t) k 0 + length (encode_items item [] l))
  unfolding ◌⨾◌ nothing
  tagged-length tag test t l h = length-append (tag.encode t) ((only (test t) [] (listed k item)).encode l) ∙ ap (λ (n : ℕ). length (tag.encode t) + n) (go (test t) h)
    where
      go : (b : Bool) → (only b [] (listed k item)).Ok l → length ((only b [] (listed k item)).encode l) ≡ cond b k 0 + length (encode_items item [] l)
      go true o = listed-length l
      go false o = rw o

  -- as many items as are told, behind the count
  listed-rows : (s : List ℕ) {l : List A} {n : ℕ} → (listed k item).read s ≡ done l n → (m : ℕ) × ((items item (length l)).read (drop k s) ≡ done l m) × (k + m ≡ n)
  unfolding items
  listed-rows s {l} {n} h = go ((num k).read s) refl
    where
      go : (r : Read Fault ℕ) → (num k).read s ≡ r → (m : ℕ) × ((items item (length l)).read (drop k s) ≡ done l m) × (k + m ≡ n)
      go (done count j) e =
          let q : j ≡ k = num-takes k s e in
          let x = shift-done k (λ l. l) ((items item count).read (drop k s)) l n (sym (listed-done k item s (e ∙ ap (done count) q)) ∙ h) in
          let r : (items item count).read (drop k s) ≡ done l x.1 = x.2 ∙ ap (λ (y : List A). done y x.1) x.3 in
          (x.1, rw (read_length item count [] (drop k s) r) r, x.4)
      go (refused e p) g = not_done (sym (listed-refused k item s g) ∙ h)

-- ---- timestamp and names
-- the bytes do not say which ids are free
module _ (free : ℕ → Bool) where
  names_same : (seen l : List NameRow) → encode_items (name_row free) seen l ≡ encode_items (name_row all) seen l
  unfolding name_row iso ◌⨾◌ refine
  names_same seen [] = refl
  names_same seen (r ∷ l) = ap (λ (x : List ℕ). (name_row all seen).encode r ++ x) (names_same (r ∷ seen) l)

  pub name-mapping-same : (sv : NameMapping) → (name_mapping free).encode sv ≡ (name_mapping all).encode sv
  unfolding name_mapping behind listed iso ◌⨾◌ refine items
  name-mapping-same sv = rw (names_same [] sv.names)

  module _ (s : List ℕ) {sv : NameMapping} {n : ℕ} (h : (name_mapping free).read s ≡ done sv n) where
    pub name-mapping-length : Bytes s → n ≡ length ((name_mapping all).encode sv)
    name-mapping-length b = ((name_mapping free).backward s sv n b h).ends ∙ ap (length {A = ℕ}) (name-mapping-same sv)

    -- the rows stand behind seven bytes
    pub name-mapping-rows : (m : ℕ) × ((items (name_row free) (length sv.names)).read (drop 7 s) ≡ done sv.names m) × (7 + m ≡ n)
    unfolding name_mapping iso
    name-mapping-rows =
        let x = map-done name_mapping_shape.make _ sv n h in
        let y = then-parts (num 4) (λ _. fixed 1 0 fault.MappingVersion (listed 2 (name_row free))) s x.1 in
        let z = fixed-done fault.Ends 1 0 fault.MappingVersion (listed 2 (name_row free)) (drop y.0 s) y.3 in
        let w = listed-rows 2 (name_row free) (drop 1 (drop y.0 s)) z.1 in
        let four = num-takes 4 s y.2 in
        let place : drop 2 (drop 1 (drop y.0 s)) ≡ drop 7 s = rw (four, drop-drop 1 4 s, drop-drop 2 5 s) in
        let r : (items (name_row free) (length x.0.1)).read (drop 7 s) ≡ done x.0.1 w.0 = rw (← place) w.1 in
        (w.0, subst (λ (y : NameMapping). (items (name_row free) (length y.names)).read (drop 7 s) ≡ done y.names w.0) x.2 r, omega (arith, w.2, z.2, y.4))

pub name-mapping-rows-length : (sv : NameMapping) → length ((name_mapping all).encode sv) ≡ 7 + length (encode_items (name_row all) [] sv.names)
unfolding name_mapping iso ◌⨾◌
name-mapping-rows-length sv = rw (length-append, num-length 4 sv.timestamp, fixed-length 2 (name_row all) 1 0 fault.MappingVersion sv.names) (omega arith)

-- ---- metadata and objects
pub form-length : (v form : ℕ) → length ((list_form v).encode form) ≡ list_version_bytes v
unfolding list_form iso refine
form-length v form = num-length (list_version_bytes v) _

pub metadata-rows-length : (v : ℕ) (x : MetadataList) → (metadata v).Ok x → length ((metadata v).encode x) ≡ metadata_head v x.form + length (encode_items (metadata_row v) [] x.rows)
unfolding metadata iso ◌⨾◌
metadata-rows-length v x h =
    tagged-length 2 (metadata_row v) (list_form v) is_counted x.form x.rows h.1
    ∙ rw (form-length v x.form) (omega arith)

pub objects-rows-length : (l : List ObjectRow) → length (objects.encode l) ≡ 3 + length (encode_items (λ _. object_row) [] l)
unfolding objects
objects-rows-length l = fixed-length 2 (λ _. object_row) 1 0 fault.ObjectVersion l ∙ omega arith

-- ---- early timers
-- the rows stand at the end of n bytes, behind the byte and the count
abbrev pub AtEnd : Timers → ℕ → Type 0
AtEnd k n = (length (encode_items timer_row [] k.rows) ≡ n - cond (has_timers k.byte) 3 n) × (cond (has_timers k.byte) 3 n ≤ n)

abbrev pub early_by : Bool → Bool → Bool → BlockFormat Timers
early_by a b c = only a no_timers (cond b timers_of24 (cond c (fixed 1 0 fault.ByteOf23 (nothing no_timers)) (nothing no_timers)))

rows_none : (k : Timers) (n : ℕ) → k ≡ no_timers → AtEnd k n
rows_none k n h = subst⁻¹ (λ (x : Timers). AtEnd x n) h (omega arith, omega arith)

rows-of-24 : (k : Timers) → timers_of24.Ok k → AtEnd k (length (timers_of24.encode k))
unfolding iso ◌⨾◌ refine nothing
rows-of-24 k h =
    let size = tagged-length 2 timer_row timer_byte_field has_timers k.byte k.rows h.1 in
    subst⁻¹ (AtEnd k) (size ∙ rw (num-length 1 k.byte)) (go (has_timers k.byte) h.1)
  where
    go : (b : Bool) → (only b [] (listed 2 timer_row)).Ok k.rows → let r = length (encode_items timer_row [] k.rows) in let n = 1 + (cond b 2 0 + r) in
        (r ≡ n - cond b 3 n) × (cond b 3 n ≤ n)
    go true o = (omega arith, omega arith)
    go false o = rw o (omega arith, omega arith)

rows-by : (a b c : Bool) (k : Timers) → (early_by a b c).Ok k → AtEnd k (length ((early_by a b c).encode k))
unfolding nothing behind iso ◌⨾◌
rows-by true true c k h = rows-of-24 k h
rows-by true false true k h = rows_none k _ h.1
rows-by true false false k h = rows_none k _ h
rows-by false b c k h = rows_none k _ h

module _ (v : ℕ) where
  pub early-none : (s : List ℕ) → 25 ≤ v → (early_timers v).read s ≡ done no_timers 0
  unfolding early_timers nothing
  early-none s h = rw (le-leb 25 v h)

  module _ (s : List ℕ) {k : Timers} {n : ℕ} (h : (early_timers v).read s ≡ done k n) (b : Bytes s) where
    pub early-length : n ≡ length ((early_timers v).encode k)
    early-length = ((early_timers v).backward s k n b h).ends

    pub early-rows : AtEnd k n
    unfolding early_timers
    early-rows =
        let t = (early_timers v).backward s k n b h in
        subst⁻¹ (AtEnd k) t.ends (rows-by (before 25 v) (since 24 v) (since 23 v) k t.ok)

-- ---- late timers
module _ (v : ℕ) where
  pub late-rows-length : (k : Timers) → 25 ≤ v → length ((late_timers v).encode k) ≡ 3 + length (encode_items timer_row [] k.rows)
  unfolding late_timers iso ◌⨾◌ nothing
  late-rows-length k h = rw (le-leb 25 v h) (fixed-length 2 timer_row 1 10 fault.TimerRowLength k.rows ∙ omega arith)

  pub late-byte : (s : List ℕ) {k : Timers} {n : ℕ} → 25 ≤ v → (late_timers v).read s ≡ done k n → k.byte ≡ 0
  unfolding late_timers iso ◌⨾◌ nothing
  late-byte s {k} {n} h e = go ((fixed 1 10 fault.TimerRowLength (listed 2 timer_row)).read s) (rw (le-leb 25 v h) at e)
    where
      go : (r : Read Fault (List TimerRow)) → map_read timers_shape.make (shift 0 (pair 0) r) ≡ done k n → k.byte ≡ 0
      go (done l m) f = let z : k ≡ timers_shape.make (pair 0 l) = cc in ap (λ (x : Timers). x.byte) z
      go (refused g p) f = not_done f

-- ---- rows from the front
-- rows that were read are read alone too
pub front-rows : (free : ℕ → Bool) (k : ℕ) (seen : List NameRow) (s : List ℕ) {l : List NameRow} {n : ℕ} → read_items (name_row free) k seen s ≡ done l n → front_rows k s ≡ l
unfolding read_items rows_read
front-rows free zero seen s h = cc
front-rows free (suc k) seen s {l} {n} h =
    let x = bind_done ((name_row free seen).read s) _ l n h in
    let y = shift-done x.1 (λ (m : List NameRow). x.0 ∷ m) (read_items (name_row free) k (x.0 ∷ seen) (drop x.1 s)) l n x.3 in
    rw (row-alone free seen s x.2).0 (ap (λ (m : List NameRow). x.0 ∷ m) (front-rows free k (x.0 ∷ seen) (drop x.1 s) y.2) ∙ y.3)

module _ (free : ℕ → Bool) (s : List ℕ) {sv : NameMapping} {n : ℕ} (h : (name_mapping free).read s ≡ done sv n) where
  pub name-mapping-front : front_rows (length sv.names) (drop 7 s) ≡ sv.names
  unfolding items
  name-mapping-front = front-rows free (length sv.names) [] (drop 7 s) (name-mapping-rows free s h).1

-- names that were marked are taken off again
pub restored : (t u s : List ℕ) {sv : NameMapping} {n : ℕ} → (name_mapping (free_in t)).read s ≡ done sv n → NamesMarked t u sv.names
    → unmarked u (front_rows (length sv.names) (drop 7 s)) ≡ t
restored t u s h m = ap (unmarked u) (name-mapping-front (free_in t) s h) ∙ m.undone

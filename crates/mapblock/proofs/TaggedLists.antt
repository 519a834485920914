-- Lists behind a tag: the metadata behind its list version, and version 24's timers behind their byte; and what follows the metadata in the
-- other versions.
use Prim.Native.Nat.{ℕ, ◌+◌, ◌<◌, ◌≤◌}
use mathlib.Core.Path.{◌≡◌, refl, ap, sym, ◌∙◌}
use mathlib.Core.List.{List, []}
use mathlib.Core.Bool.{Bool, true, false, cond, or-true}
use native.Mathlib.Nat.{add-zero}
use native.Mathlib.Omega.{arith}
use lib.Dec.{leb, eqb}
use lib.ListN.{length, drop}
use borrow.Author.Tests.{le-leb, lt-leb, leb-true, leb-false, eqb-true, eq-eqb, ne_eqb}
use Rattle.wire.specs.Read.{Read, done, refused, map_read, shift, reach, reach-shift}
use Rattle.wire.specs.Format.{nothing, refine, ◌⨾◌, iso, pair}
use Rattle.wire.specs.Formats.{u8, listed, tagged, into, Shape}
use Rattle.wire.proofs.Fixed.{fixed_on, fixed-other, fixed-refused}
use Rattle.wire.proofs.Tests.{and_yes}
use Rattle.mapblock.specs.Inventory.{BlockFormat}
use Rattle.mapblock.specs.Data.{MetadataRow, TimerRow, no_timers, metadata_list_shape, timers_shape}
use Rattle.mapblock.specs.Layout.{since, metadata_row, timer_row, list_version_bytes, list_version, is_zero_form, is_list_version, list_counted, is_counted, list_zero, form_of, list_form, metadata, timer_byte_field, has_timers, early_timers}
use Rattle.mapblock.specs.Told.{ended, list_form_in, timer_byte}
use Rattle.mapblock.specs.declared.fault.Fault.{Fault}
use Rattle.mapblock.specs.declared.fault.Fault.TheVariants as fault
use Rattle.mapblock.proofs.Readings.{num}

-- where a list behind the first n bytes ends, told with its tag
pub behind-tag : {A : Type 0} (f : BlockFormat A) (t n : ℕ) (s : List ℕ) {y : Read Fault (Unit {0})} → y ≡ ended (f.read (drop n s))
    → shift n (λ _. t) y ≡ shift n (λ _. t) (f.read (drop n s))
behind-tag {A} f t n s e = ap (shift n (λ _. t)) e ∙ go (f.read (drop n s))
  where
    go : (r : Read Fault A) → shift n (λ _. t) (ended r) ≡ shift n (λ _. t) r
    go (done a m) = refl
    go (refused e p) = refl

-- it lies in the bytes
pub behind-within : {A B : Type 0} (f : BlockFormat A) (to : A → B) (n : ℕ) (s : List ℕ) {r : Read Fault B} → r ≡ shift n to (f.read (drop n s)) → n ≤ length s → reach r ≤ length s
behind-within f to n s h k = rw h (reach-shift n s to (f.read (drop n s)) k (f.inside (drop n s)))

-- ---- a tag, and a list where it passes a test; of the record that they make the tag is told
module _ {A R : Type 0} (shape : Shape (ℕ × List A) R) (tag_of : R → ℕ) (same : (t : ℕ) (l : List A) → tag_of (shape.make (t, l)) ≡ t)
    (tag : BlockFormat ℕ) (test : ℕ → Bool) (f : BlockFormat (List A)) (s : List ℕ) where
  abbrev told : Read Fault ℕ
  told = map_read tag_of ((into shape (tagged tag test [] f)).read s)

  pub tag-refused : {e : Fault} {p : ℕ} → tag.read s ≡ refused e p → refused e p ≡ told
  unfolding iso ◌⨾◌
  tag-refused h = rw h

  module _ {t n : ℕ} (h : tag.read s ≡ done t n) where
    pub tag-alone : test t ≡ false → done t n ≡ told
    unfolding iso ◌⨾◌ nothing
    tag-alone e = rw (h, e, same, add-zero)

    pub tag-list : test t ≡ true → shift n (λ _. t) (f.read (drop n s)) ≡ told
    unfolding iso ◌⨾◌
    tag-list e = rw (h, e) (go (f.read (drop n s)))
      where
        go : (r : Read Fault (List A)) → shift n (λ _. t) r ≡ map_read tag_of (map_read shape.make (shift n (pair t) r))
        go (done l m) = ap (λ (x : ℕ). done x (n + m)) (sym (same t l))
        go (refused e p) = refl

-- ---- the metadata, by its list version
pub list-version-bytes-old : {v : ℕ} → v < 23 → list_version_bytes v ≡ 2
list-version-bytes-old {v} h = rw (lt-leb 23 v h)

pub list-version-bytes-new : {v : ℕ} → 23 ≤ v → list_version_bytes v ≡ 1
list-version-bytes-new {v} h = rw (le-leb 23 v h)

pub list-version-bytes-most : (v : ℕ) → list_version_bytes v ≤ 2
list-version-bytes-most v = go (since 23 v)
  where
    go : (c : Bool) → cond c 1 2 ≤ 2
    go true = omega arith
    go false = omega arith

pub form-counted : (v : ℕ) → form_of (list_version v) ≡ list_counted
form-counted v = go (since 28 v)
  where
    go : (c : Bool) → form_of (cond c 2 1) ≡ list_counted
    go true = refl
    go false = refl

module _ (v : ℕ) (s : List ℕ) where
  abbrev k : ℕ
  k = list_version_bytes v

  abbrev rows : BlockFormat (List MetadataRow)
  rows = listed 2 (metadata_row v)

  form-refused : {e : Fault} {p : ℕ} → (num k).read s ≡ refused e p → (list_form v).read s ≡ refused e p
  unfolding list_form iso refine
  form-refused h = rw h

  form-is : {x : ℕ} → (num k).read s ≡ done x k → is_list_version v x ≡ true → (list_form v).read s ≡ done (form_of x) k
  unfolding list_form iso refine
  form-is h t = rw (h, t)

  form-other : {x : ℕ} → (num k).read s ≡ done x k → is_list_version v x ≡ false → (list_form v).read s ≡ refused fault.MetadataVersion 0
  unfolding list_form iso refine
  form-other h t = rw (h, t)

  pub metadata-refused : {e : Fault} {p : ℕ} → (num k).read s ≡ refused e p → refused e p ≡ map_read list_form_in ((metadata v).read s)
  unfolding metadata
  metadata-refused h = tag-refused metadata_list_shape list_form_in (λ t l. refl) (list_form v) is_counted rows s (form-refused h)

  module _ {x : ℕ} (h : (num k).read s ≡ done x k) where
    pub metadata-counted : x ≡ list_version v → shift k (λ _. list_counted) (rows.read (drop k s)) ≡ map_read list_form_in ((metadata v).read s)
    unfolding metadata
    metadata-counted e =
        let form = form-is (h ∙ ap (λ (n : ℕ). done n k) e) (rw (eq-eqb (list_version v) (list_version v) refl)) ∙ ap (λ (n : ℕ). done n k) (form-counted v) in
        tag-list metadata_list_shape list_form_in (λ t l. refl) (list_form v) is_counted rows s form refl

    pub metadata-zero : is_zero_form v x ≡ true → done list_zero k ≡ map_read list_form_in ((metadata v).read s)
    unfolding metadata
    metadata-zero t =
        let e : x ≡ 0 = eqb-true x 0 (and_yes (eqb x 0) (since 23 v) t).0 in
        let form = form-is h (rw t (or-true (eqb x (list_version v)))) ∙ ap (λ (n : ℕ). done (form_of n) k) e in
        tag-alone metadata_list_shape list_form_in (λ t l. refl) (list_form v) is_counted rows s form refl

    pub metadata-other : (x ≡ list_version v → ⊥) → is_zero_form v x ≡ false → refused fault.MetadataVersion 0 ≡ map_read list_form_in ((metadata v).read s)
    unfolding metadata
    metadata-other n t = tag-refused metadata_list_shape list_form_in (λ t l. refl) (list_form v) is_counted rows s (form-other h (rw (ne_eqb x (list_version v) n) t))

-- ---- what follows the metadata, by its byte
module _ (s : List ℕ) where
  abbrev timer_rows : BlockFormat (List TimerRow)
  timer_rows = listed 2 timer_row

  pub early-refused : {e : Fault} {p : ℕ} → (u8 {ends = fault.Ends}).read s ≡ refused e p → refused e p ≡ map_read timer_byte ((early_timers 24).read s)
  unfolding early_timers refine
  early-refused h = tag-refused timers_shape timer_byte (λ t l. refl) timer_byte_field has_timers timer_rows s (rw h)

  module _ {b : ℕ} (h : (u8 {ends = fault.Ends}).read s ≡ done b 1) where
    pub early-above : 1 < b → refused fault.TimerByte 0 ≡ map_read timer_byte ((early_timers 24).read s)
    unfolding early_timers refine
    early-above k = tag-refused timers_shape timer_byte (λ t l. refl) timer_byte_field has_timers timer_rows s (rw (h, lt-leb b 1 k))

    byte-is : {t : ℕ} → b ≡ t → leb t 1 ≡ true → timer_byte_field.read s ≡ done t 1
    unfolding refine
    byte-is k e = rw (h, k, e)

    pub early-none : b ≡ 0 → done 0 1 ≡ map_read timer_byte ((early_timers 24).read s)
    unfolding early_timers refine
    early-none k = tag-alone timers_shape timer_byte (λ t l. refl) timer_byte_field has_timers timer_rows s (byte-is k refl) refl

    pub early-some : b ≡ 1 → shift 1 (λ _. 1) (timer_rows.read (drop 1 s)) ≡ map_read timer_byte ((early_timers 24).read s)
    unfolding early_timers refine
    early-some k = tag-list timers_shape timer_byte (λ t l. refl) timer_byte_field has_timers timer_rows s (byte-is k refl) refl

  -- in version 23
  pub byte-refused : {e : Fault} {p : ℕ} → (u8 {ends = fault.Ends}).read s ≡ refused e p → refused e p ≡ map_read timer_byte ((early_timers 23).read s)
  unfolding early_timers
  byte-refused h = ap (map_read timer_byte) (sym (fixed-refused fault.Ends 1 0 fault.ByteOf23 (nothing no_timers) s h))

  module _ {b : ℕ} (h : (u8 {ends = fault.Ends}).read s ≡ done b 1) where
    pub byte-other : (b ≡ 0 → ⊥) → refused fault.ByteOf23 0 ≡ map_read timer_byte ((early_timers 23).read s)
    unfolding early_timers
    byte-other n = ap (map_read timer_byte) (sym (fixed-other fault.Ends 1 0 fault.ByteOf23 (nothing no_timers) s h n))

    pub byte-zero : b ≡ 0 → done 0 1 ≡ map_read timer_byte ((early_timers 23).read s)
    unfolding early_timers nothing
    byte-zero e = ap (map_read timer_byte) (sym (fixed_on fault.Ends 1 0 fault.ByteOf23 (nothing no_timers) s (h ∙ ap (λ (x : ℕ). done x 1) e)))

module _ (v : ℕ) (s : List ℕ) where
  -- in the other versions
  not_yet : v < 23 → done 0 0 ≡ map_read timer_byte ((early_timers v).read s)
  unfolding early_timers nothing
  not_yet h =
      let a : v < 24 = omega arith in
      let b : v < 25 = omega arith in
      rw (lt-leb 25 v b, lt-leb 24 v a, lt-leb 23 v h)

  no_more : 25 ≤ v → done 0 0 ≡ map_read timer_byte ((early_timers v).read s)
  unfolding early_timers nothing
  no_more h = rw (le-leb 25 v h)

  pub early-never : (v ≡ 24 → ⊥) → (v ≡ 23 → ⊥) → done 0 0 ≡ map_read timer_byte ((early_timers v).read s)
  early-never a b = go (leb 25 v) refl
    where
      go : (c : Bool) → leb 25 v ≡ c → done 0 0 ≡ map_read timer_byte ((early_timers v).read s)
      go true e = no_more (leb-true _ _ e)
      go false e = not_yet (omega (arith, leb-false 25 v e))

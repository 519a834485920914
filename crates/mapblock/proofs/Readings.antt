-- Readings of a block: what proofs about its parts share.
use Prim.Native.Nat.{ℕ, ◌+◌, ◌-◌, ◌<◌, ◌≤◌}
use mathlib.Core.Path.{◌≡◌, refl, ap, sym, ◌∙◌}
use mathlib.Core.List.{List, [], ◌∷◌, ◌++◌}
use native.Mathlib.Nat.{add_assoc, sub-zero}
use native.Mathlib.Omega.{arith}
use lib.ListN.{length, drop, length-drop}
use lib.Seq.{drop-drop}
use Rattle.wire.specs.Read.{Read, done, refused, bind, map_read, shift, reach, map-done, map-refused}
use Rattle.wire.specs.Format.{◌⨾◌, next, pair, items, read_items, ends-in}
use Rattle.wire.specs.Formats.{◌▹◌, number, prefixed}
use Rattle.wire.proofs.Items.{after, items-start, items-on, items_refused, items-end}
use Rattle.mapblock.specs.Inventory.{BlockFormat}
use Rattle.mapblock.proofs.Leaves.{told_in}
use Rattle.mapblock.specs.Told.{ended}
use Rattle.mapblock.specs.declared.fault.Fault.{Fault}

-- ---- fields whose bytes may end
abbrev pub num : ℕ → BlockFormat ℕ
num k = number k

abbrev pub text : ℕ → BlockFormat (List ℕ)
text k = prefixed k

-- ---- an end or a place lies in the bytes
pub within : {A : Type 0} (f : BlockFormat A) (s : List ℕ) {r : Read Fault A} → f.read s ≡ r → reach r ≤ length s
within f s h = rw h at (f.inside s)

pub within-ended : {A : Type 0} (f : BlockFormat A) (s : List ℕ) {r : Read Fault (Unit {0})} → r ≡ ended (f.read s) → reach r ≤ length s
within-ended f s h = told_in (λ _. tt) f s h

-- ---- where of what was read the end alone is known
pub ended-done : {A : Type 0} (r : Read Fault A) {n : ℕ} → done tt n ≡ ended r → (a : A) × (r ≡ done a n)
ended-done r {n} h = let x = map-done (λ _. tt) r tt n (sym h) in (x.0, x.1)

pub ended-refused : {A : Type 0} (r : Read Fault A) {e : Fault} {p : ℕ} → refused e p ≡ ended r → r ≡ refused e p
ended-refused r {e} {p} h = map-refused (λ _. tt) r e p (sym h)

pub ended-map : {A B : Type 0} (f : A → B) (r : Read Fault A) → ended (map_read f r) ≡ ended r
ended-map f (done a n) = refl
ended-map f (refused e p) = refl

shift-twice : {A B C : Type 0} (n m : ℕ) (f : B → C) (g : A → B) (r : Read Fault A) → ended (shift n f (shift m g r)) ≡ shift (n + m) (λ u. u) (ended r)
shift-twice n m f g (done a k) = rw add_assoc
shift-twice n m f g (refused e p) = rw add_assoc

-- what follows a reading that ended
abbrev pub behind : {A : Type 0} → BlockFormat A → List ℕ → Unit {0} → ℕ → Read Fault (Unit {0})
behind h s u n = shift n (λ w. w) (ended (h.read (drop n s)))

module _ {A B C : Type 0} (f : BlockFormat A) (g : BlockFormat B) (h : BlockFormat C) (s : List ℕ) where
  third-by : (a : A) (n : ℕ) (x : Read Fault B) → ended (shift n (pair a) (bind x (next (λ _. h) (drop n s)))) ≡ bind (ended (shift n (pair a) x)) (behind h s)
  third-by a n (done b m) = rw (drop-drop m n s) (shift-twice n m (pair a) (pair b) (h.read (drop (n + m) s)))
  third-by a n (refused e p) = refl

  second-by : (x : Read Fault A) → ended (bind x (next (λ _. g ▹ h) s)) ≡ bind (ended (bind x (next (λ _. g) s))) (behind h s)
  unfolding ◌⨾◌
  second-by (done a n) = third-by a n (g.read (drop n s))
  second-by (refused e p) = refl

  -- three fields, by where the first two ended
  pub ended-third : ended ((f ▹ g ▹ h).read s) ≡ bind (ended ((f ▹ g).read s)) (behind h s)
  unfolding ◌⨾◌
  ended-third = second-by (f.read s)

-- ---- so many items, where of each the end alone is known: so many are past, and end at a place
pub record Reading {A : Type 0} (item : List A → BlockFormat A) (count : ℕ) (s : List ℕ) (at past : ℕ) : Type 0 where
  pub pre : List A
  pub seen : List A
  pub whole : after pre at (read_items item (count - past) seen (drop at s)) ≡ (items item count).read s
  pub size : at ≤ length s

abbrev pub reading-start : {A : Type 0} (item : List A → BlockFormat A) (count : ℕ) (s : List ℕ) → Reading item count s 0 0
reading-start item count s = record { pre = []; seen = []; whole = rw sub-zero (items-start item count s); size = omega arith }

module _ {A : Type 0} {item : List A → BlockFormat A} {count : ℕ} {s : List ℕ} {at past : ℕ} (r : Reading item count s at past) where
  pub reading-place : {x : Read Fault (Unit {0})} → x ≡ ended ((item r.seen).read (drop at s)) → at + reach x ≤ length s
  reading-place {x} h =
      let i : reach x ≤ length (drop at s) = within-ended (item r.seen) (drop at s) h in
      omega (arith, r.size, i, length-drop at s)

  pub reading-end : count ≤ past → done tt at ≡ ended ((items item count).read s)
  reading-end h = let z : count - past ≡ 0 = omega arith in ap ended (sym (items-end item (count - past) r.pre r.seen at (drop at s) z) ∙ r.whole)

  module _ (h : past < count) where
    pub reading-refused : {e : Fault} {p : ℕ} → refused e p ≡ ended ((item r.seen).read (drop at s)) → refused e (at + p) ≡ ended ((items item count).read s)
    reading-refused {e} {p} k =
        let x = ended-refused ((item r.seen).read (drop at s)) k in
        let left : 0 < count - past = omega arith in
        ap ended (sym (items_refused item (count - past) r.pre r.seen at (drop at s) left x) ∙ r.whole)

    -- the item that was read is seen
    abbrev pub reading-on : {a : A} {n : ℕ} → (item r.seen).read (drop at s) ≡ done a n → Reading item count s (at + n) (past + 1)
    reading-on {a} {n} e =
        let left : 0 < count - past = omega arith in
        let z : count - past - 1 ≡ count - (past + 1) = omega arith in
        record {
          pre = r.pre ++ a ∷ [];
          seen = a ∷ r.seen;
          whole = rw (← z, ← drop-drop n at s) (sym (items-on item (count - past) r.pre r.seen at (drop at s) left e) ∙ r.whole);
          size = omega (arith, r.size, ends-in (item r.seen) e, length-drop at s);
        }

-- How a refusal is handed on: what the exits of `?` give, and the answers of readers that began further back.
use Prim.Native.Nat.{ℕ, ◌+◌, ◌-◌, ◌≤◌}
use mathlib.Core.Path.{◌≡◌, sym, subst}
use mathlib.Core.List.{List}
use native.Mathlib.Omega.{arith}
use lib.ListN.{length, take, drop, length-drop}
use Rattle.std.specs.Prelude.{Result, Ok, Err}
use Rattle.wire.proofs.Lists.{rest-is}
use Rattle.wire.specs.Ranges.{InReach}
use Rattle.wire.specs.Read.{done, refused, map_read}
use Rattle.mapblock.specs.Inventory.{BlockFormat}
use Rattle.mapblock.specs.Told.{ended, told_reach, told_reading}
use Rattle.mapblock.specs.declared.fault.Fault.{Fault}
use Rattle.mapblock.specs.declared.fault.Refusal.{Refusal}
use Rattle.mapblock.proofs.Leaves.{told_in}
use Rattle.mapblock.specs.Refusals.{refusal_at, Behind}

-- ---- a reader that began behind n bytes, of whose answer r it is told that Q r
pub behind_err : {A : Type 0} (P : Refusal → Type 0) (Q : Result A Refusal → Type 0) (n : ℕ) (r : Result A Refusal) {w : Refusal} → Behind n r (Err w) → Q r
    → ((v : Refusal) → Q (Err v) → InReach (n + v.offset)) → ((v : Refusal) → Q (Err v) → P (refusal_at v.fault (n + v.offset))) → P w
behind_err P Q n (Ok a) h q i f = cc
behind_err P Q n (Err v) h q i f = subst P (sym (h (i v q))) (f v q)

pub behind_ok : {A : Type 0} (Q : Result A Refusal → Type 0) (n : ℕ) (r : Result A Refusal) {a : A} → Behind n r (Ok a) → Q r → Q (Ok a)
behind_ok Q n (Ok b) h q = subst Q (sym h) q
behind_ok Q n (Err v) h q = absurd h

-- it read f, and is told with where it ended, or with its value
module _ {A : Type 0} (f : BlockFormat A) (s : List ℕ) (at : ℕ) where
  pub reach_ok : (r : Result ℕ Refusal) {n : ℕ} → Behind at r (Ok n) → told_reach r ≡ ended (f.read (take (length s - at) (drop at s))) → done tt n ≡ ended (f.read (drop at s))
  reach_ok r h q = behind_ok (λ x. told_reach x ≡ ended (f.read (drop at s))) at r h (rw (rest-is at s) at q)

  pub reach_err : (r : Result ℕ Refusal) (P : Refusal → Type 0) {w : Refusal} → Behind at r (Err w) → told_reach r ≡ ended (f.read (take (length s - at) (drop at s)))
      → at ≤ length s → InReach (length s) → ((e : Fault) (p : ℕ) → refused e p ≡ ended (f.read (drop at s)) → P (refusal_at e (at + p))) → P w
  reach_err r P h q l i g =
      behind_err P (λ x. told_reach x ≡ ended (f.read (drop at s))) at r h (rw (rest-is at s) at q)
      (λ v k. omega (arith, told_in (λ _. tt) f (drop at s) k, length-drop at s)) (λ v k. g v.fault v.offset k)

  module _ {B : Type 0} (to : A → B) where
    pub reading_ok : (r : Result (B × ℕ) Refusal) {b : B} {n : ℕ} → Behind at r (Ok (b, n)) → told_reading r ≡ map_read to (f.read (take (length s - at) (drop at s)))
        → done b n ≡ map_read to (f.read (drop at s))
    reading_ok r h q = behind_ok (λ x. told_reading x ≡ map_read to (f.read (drop at s))) at r h (rw (rest-is at s) at q)

    pub reading_err : (r : Result (B × ℕ) Refusal) (P : Refusal → Type 0) {w : Refusal} → Behind at r (Err w)
        → told_reading r ≡ map_read to (f.read (take (length s - at) (drop at s))) → at ≤ length s → InReach (length s)
        → ((e : Fault) (p : ℕ) → refused e p ≡ map_read to (f.read (drop at s)) → P (refusal_at e (at + p))) → P w
    reading_err r P h q l i g =
        behind_err P (λ x. told_reading x ≡ map_read to (f.read (drop at s))) at r h (rw (rest-is at s) at q)
        (λ v k. omega (arith, told_in to f (drop at s) k, length-drop at s)) (λ v k. g v.fault v.offset k)

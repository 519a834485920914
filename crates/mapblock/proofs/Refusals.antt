-- How a refusal is handed on: behind `ok_or`, and by readers that began further back.
use Prim.Native.Nat.{ℕ, ◌+◌, ◌-◌, ◌≤◌}
use mathlib.Core.Path.{◌≡◌, refl, ap, sym, ◌∙◌}
use native.Mathlib.Omega.{arith}
use lib.ListN.{length, take, drop, length-drop}
use Rattle.std.specs.Prelude.{List, Option, None, Result, Ok, Err, IsErrAnd}
use Rattle.std.specs.Option.{ok_or}
use Rattle.wire.specs.Ranges.{InReach}
use Rattle.wire.specs.Read.{Read, done, refused, reach, not_done}
use Rattle.wire.proofs.Lists.{rest-is}
use Rattle.mapblock.specs.Inventory.{BlockFormat}
use Rattle.mapblock.specs.Refusals.{refusal_at, Behind}
use Rattle.mapblock.specs.Told.{told_reach, ended, refused_behind}
use Rattle.mapblock.specs.declared.fault.Fault.{Fault}
use Rattle.mapblock.specs.declared.fault.Refusal.{Refusal}
use Rattle.mapblock.proofs.Readings.{within-ended}
use Rattle.wire.proofs.Handed.{none_handed}

-- ---- behind `ok_or`, where the refusal that it gives is told as another
pub none_becomes : {A B E : Type 0} {o : Option A} {e d w : E} (z : Result B E) → IsErrAnd z (λ y. y ≡ w) → Err w ≡ ok_or o e → o ≡ None → e ≡ d → z ≡ Err d
none_becomes z h v n k = none_handed z h v n ∙ ap Err k

-- ---- a field that stands behind n bytes
pub at_refused : {A B : Type 0} {x : Read Fault B} (n : ℕ) (r : Read Fault A) {e : Fault} {p : ℕ} → refused e p ≡ refused_behind n r
    → ((q : ℕ) → r ≡ refused e q → refused e (n + q) ≡ x) → refused e p ≡ x
at_refused n (done a m) h f = not_done h
at_refused n (refused k q) {e} {p} h f =
    let same : k ≡ e = cc in
    let z : p ≡ n + q = cc in
    rw z (f q (rw same refl))

pub at_done : {A : Type 0} (n : ℕ) (r : Read Fault A) {a : A} {m : ℕ} → done a m ≡ refused_behind n r → r ≡ done a m
at_done n (done b k) h = sym h
at_done n (refused k q) h = not_done (sym h)

-- ---- a reader that began behind the first n bytes
behind_refused : {B : Type 0} {x : Read Fault B} (n : ℕ) (r : Result ℕ Refusal) {y : Read Fault (Unit {0})} {w : Refusal} → Behind n r (Err w) → told_reach r ≡ y → InReach (n + reach y)
    → ((e : Fault) (p : ℕ) → refused e p ≡ y → refused e (n + p) ≡ x) → refused w.fault w.offset ≡ x
behind_refused n (Ok a) h t i f = let z : ◌≡◌ {A = ℕ} 0 1 = cc in absurd (omega arith)
behind_refused n (Err v) {y} {w} h t i f =
    let k : InReach (n + v.offset) = rw (← t) at i in
    let z = h k in
    rw z (f v.fault v.offset t)

behind_done : (n : ℕ) (r : Result ℕ Refusal) {y : Read Fault (Unit {0})} {a : ℕ} → Behind n r (Ok a) → told_reach r ≡ y → done tt a ≡ y
behind_done n (Ok b) {y} {a} h t = let z : a ≡ b = cc in rw z t
behind_done n (Err v) h t = absurd h

module _ {A : Type 0} (f : BlockFormat A) (n : ℕ) (s : List ℕ) (r : Result ℕ Refusal) where
  pub told_refused : {B : Type 0} {x : Read Fault B} {w : Refusal} → Behind n r (Err w) → told_reach r ≡ ended (f.read (drop n s)) → InReach n → InReach (length s)
      → ((e : Fault) (p : ℕ) → refused e p ≡ ended (f.read (drop n s)) → refused e (n + p) ≡ x) → refused w.fault w.offset ≡ x
  told_refused h t k l g =
      let i : reach (ended (f.read (drop n s))) ≤ length (drop n s) = within-ended f (drop n s) refl in
      let m : InReach (n + reach (ended (f.read (drop n s)))) = omega (arith, i, length-drop n s) in
      behind_refused n r h t m g

  pub told_done : {a : ℕ} → Behind n r (Ok a) → told_reach r ≡ ended (f.read (drop n s)) → done tt a ≡ ended (f.read (drop n s))
  told_done h t = behind_done n r h t

  -- the same, where it read the slice from there on
  pub part_refused : {B : Type 0} {x : Read Fault B} {w : Refusal} → Behind n r (Err w) → told_reach r ≡ ended (f.read (take (length s - n) (drop n s))) → InReach n → InReach (length s)
      → ((e : Fault) (p : ℕ) → refused e p ≡ ended (f.read (drop n s)) → refused e (n + p) ≡ x) → refused w.fault w.offset ≡ x
  part_refused h t k l g = told_refused h (rw (rest-is n s) at t) k l g

  pub part_done : {a : ℕ} → Behind n r (Ok a) → told_reach r ≡ ended (f.read (take (length s - n) (drop n s))) → done tt a ≡ ended (f.read (drop n s))
  part_done h t = told_done h (rw (rest-is n s) at t)

  -- the refusal itself
  pub part_refusal : {w : Refusal} → Behind n r (Err w) → told_reach r ≡ ended (f.read (take (length s - n) (drop n s))) → InReach n → InReach (length s)
      → (e : Fault) × (p : ℕ) × (refused e p ≡ ended (f.read (drop n s))) × (w ≡ refusal_at e (n + p))
  part_refusal {w} h t k l =
      let told : told_reach r ≡ ended (f.read (drop n s)) = rw (rest-is n s) at t in
      let i : reach (ended (f.read (drop n s))) ≤ length (drop n s) = within-ended f (drop n s) refl in
      let m : InReach (n + reach (ended (f.read (drop n s)))) = omega (arith, i, length-drop n s) in
      inner r h told m
    where
      inner : (q : Result ℕ Refusal) → Behind n q (Err w) → told_reach q ≡ ended (f.read (drop n s)) → InReach (n + reach (ended (f.read (drop n s))))
          → (e : Fault) × (p : ℕ) × (refused e p ≡ ended (f.read (drop n s))) × (w ≡ refusal_at e (n + p))
      inner (Ok a) g d m = let z : ◌≡◌ {A = ℕ} 0 1 = cc in absurd (omega arith)
      inner (Err v) g d m = (v.fault, v.offset, d, g (rw (← d) at m))

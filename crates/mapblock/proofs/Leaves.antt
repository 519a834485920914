-- What a leaf of wire told, as a reading with the block's own fault: x is the leaf's answer and y the case that the code is in.
use Prim.Native.Nat.{ℕ, ◌^◌, ◌+◌, ◌<◌, ◌≤◌}
use mathlib.Core.Path.{◌≡◌, ap, sym, ◌∙◌}
use mathlib.Core.List.{List}
use native.Mathlib.Omega.{arith}
use lib.IntN.{ℤ}
use lib.ListN.{length, take, drop, length-drop}
use lib.Seq.{length-take-le}
use Rattle.wire.specs.Read.{Read, done, reach, with_fault, map_read, reach-map}
use Rattle.wire.specs.Format.{ends-in}
use Rattle.wire.specs.Formats.{number, signed, prefixed}
use Rattle.wire.specs.Told.{Short, short}
use Rattle.wire.proofs.Steps.{number-told, signed-told, prefixed-told}
use Rattle.mapblock.specs.Inventory.{BlockFormat}
use Rattle.mapblock.specs.declared.fault.Fault.{Fault}
use Rattle.mapblock.specs.declared.fault.Fault.TheVariants as fault

module _ {R : Type 0} {x y : R} where
  pub by_number : (k : ℕ) (s : List ℕ) (told : R → Read Short ℕ) → told x ≡ (number {ends = short} k).read s → x ≡ y
      → (number {ends = fault.Ends} k).read s ≡ with_fault fault.Ends (told y)
  by_number k s told e g = number-told fault.Ends k s (sym (ap told g) ∙ e)

  pub by-signed : (k half : ℕ) (h : 256 ^ k ≡ half + half) (s : List ℕ) (told : R → Read Short ℤ) → told x ≡ (signed {ends = short} k half h).read s → x ≡ y
      → (signed {ends = fault.Ends} k half h).read s ≡ with_fault fault.Ends (told y)
  by-signed k half h s told e g = signed-told fault.Ends k half h s (sym (ap told g) ∙ e)

  pub by-counted : (k : ℕ) (s : List ℕ) (told : R → Read Short (List ℕ)) → told x ≡ (prefixed {ends = short} k).read s → x ≡ y
      → (prefixed {ends = fault.Ends} k).read s ≡ with_fault fault.Ends (told y)
  by-counted k s told e g = prefixed-told fault.Ends k s (sym (ap told g) ∙ e)

-- what was told of a reading lies in the list
pub told_in : {A B : Type 0} (to : A → B) (f : BlockFormat A) (s : List ℕ) {r : Read Fault B} → r ≡ map_read to (f.read s) → reach r ≤ length s
told_in to f s h = rw (h, reach-map) (f.inside s)

-- the same behind n bytes
pub told-behind : {A : Type 0} (f : BlockFormat A) (n : ℕ) (s : List ℕ) {r : Read Fault A} → f.read (drop n s) ≡ r → n ≤ length s → n + reach r ≤ length s
told-behind f n s {r} h k =
    let i : reach r ≤ length (drop n s) = rw (← h) (f.inside (drop n s)) in
    omega (arith, length-drop n s)

-- a field that was read behind n bytes
pub read_behind : {A : Type 0} (f : BlockFormat A) (n : ℕ) (s : List ℕ) {a : A} {m : ℕ} → f.read (drop n s) ≡ done a m → 0 < m → n + m ≤ length s
read_behind f n s h k = omega (arith, ends-in f h, length-drop n s)

-- a run that was told has its length
pub run_length : (k n : ℕ) (s : List ℕ) → (prefixed {ends = fault.Ends} k).read s ≡ done (take n (drop k s)) (k + n) → length (take n (drop k s)) ≡ n
run_length k n s h = length-take-le n (drop k s) (omega (arith, ends-in (prefixed k) h, length-drop k s))

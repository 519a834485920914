-- The zeros and the ones among the low k bits of a number.
use Prim.Native.Nat.{ℕ, zero, suc, ◌+◌, ◌-◌, ◌*◌, ◌/◌, ◌%◌, ◌^◌, ◌≤◌}
use mathlib.Core.Path.{◌≡◌, refl, ◌∙◌}
use mathlib.Core.Bool.{Bool, true, false, cond}
use native.Mathlib.Numerals.{add-one}
use native.Mathlib.Omega.{arith}
use lib.Dec.{eqb}
use lib.Bits.{bit_and, and_mask}
use lib.Count.{ones, ones_step}
use lib.Pow.{mod-pow-add}
use borrow.Author.Tests.{eqb-true, eqb-false}
use Rattle.block_reader.specs.Light.{zeros}

low_bit : (n : ℕ) → cond (eqb (n % 2) 0) 1 0 + n % 2 ≡ 1
low_bit n = go (eqb (n % 2) 0) refl
  where
    go : (b : Bool) → eqb (n % 2) 0 ≡ b → cond b 1 0 + n % 2 ≡ 1
    go true e = omega (arith, eqb-true (n % 2) 0 e)
    go false e = let h : n % 2 ≡ 0 → ⊥ = eqb-false (n % 2) 0 e in omega arith

ones_none : ones 0 ≡ 0
unfolding ones
ones_none = refl

zeros-ones : (k n : ℕ) → zeros k n + ones (n % 2 ^ k) ≡ k
unfolding zeros
zeros-ones zero n =
    let z : n % 1 ≡ 0 = omega arith in
    rw (z, ones_none)
zeros-ones (suc k) n =
    let r = n % 2 ^ suc k in
    let split : r ≡ n / 2 % 2 ^ k * 2 + n % 2 = rw add-one at (mod-pow-add n k 1) in
    let high : r / 2 ≡ n / 2 % 2 ^ k = omega arith in
    let low : r % 2 ≡ n % 2 = omega arith in
    let step : ones r ≡ n % 2 + ones (n / 2 % 2 ^ k) = ones_step r ∙ rw (high, low) in
    omega (arith, step, low_bit n, zeros-ones k (n / 2))

pub zeros-are : (k n : ℕ) → k - ones (bit_and n (2 ^ k - 1)) ≡ zeros k n
zeros-are k n = rw (and_mask n k) (omega (arith, zeros-ones k n))

pub ones-within : (k n : ℕ) → ones (bit_and n (2 ^ k - 1)) ≤ k
ones-within k n = rw (and_mask n k) (omega (arith, zeros-ones k n))

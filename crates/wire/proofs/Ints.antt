-- ℤ for `omega`, which reads naturals alone: an integer z is `up z` less `down z`. Each operation of ℤ has a linear law over the two, so
-- that `omega (arith, plus-is a b, ..)` proves equations and orders of integers.
use mathlib.Core.Path.{◌≡◌, refl, ap}
use mathlib.Core.Bool.{Bool, true, false, cond}
use Prim.Native.Nat.{ℕ, zero, suc, ◌+◌, ◌*◌, ◌-◌, ◌^◌, ◌≤◌, ◌<◌}
use native.Mathlib.Nat.{mul_comm}
use native.Mathlib.Omega.{arith}
use lib.IntN.{ℤ, pos, negsuc, neg_ℤ, nat_abs, sub_ℕ, ◌+ℤ◌, ◌-ℤ◌, ◌*ℤ◌}
use lib.Signed.{le_z, lt_z, non_neg}
use lib.Dec.{T, ltb}
use mir.Syntax.{Width}
use mir.Val.{SFits, hbits}
use Rattle.wire.specs.Choice.{no_true, no_false}
use borrow.Author.Tests.{ltb-true, ltb-false, leb-true, leb-false, lt-ltb, le-ltb, le-leb, lt-leb}

abbrev pub up : ℤ → ℕ
up (pos n) = n
up (negsuc n) = 0

abbrev pub down : ℤ → ℕ
down (pos n) = 0
down (negsuc n) = suc n

difference-by : (a b : ℕ) (t : Bool) → ltb a b ≡ t → up (cond t (negsuc (b - suc a)) (pos (a - b))) + b ≡ a + down (cond t (negsuc (b - suc a)) (pos (a - b)))
difference-by a b true e = let h = ltb-true a b e in omega arith
difference-by a b false e = let h = ltb-false a b e in omega arith

pub difference-is : (a b : ℕ) → up (sub_ℕ a b) + b ≡ a + down (sub_ℕ a b)
difference-is a b = difference-by a b (ltb a b) refl

pub plus-is : (a b : ℤ) → up (a +ℤ b) + (down a + down b) ≡ up a + up b + down (a +ℤ b)
plus-is (pos a) (pos b) = omega arith
plus-is (pos a) (negsuc b) = omega (arith, difference-is a (suc b))
plus-is (negsuc a) (pos b) = omega (arith, difference-is b (suc a))
plus-is (negsuc a) (negsuc b) = omega arith

pub neg_is : (a : ℤ) → (up (neg_ℤ a) ≡ down a) × (down (neg_ℤ a) ≡ up a)
neg_is (pos zero) = (refl, refl)
neg_is (pos (suc n)) = (refl, refl)
neg_is (negsuc n) = (refl, refl)

pub minus_is : (a b : ℤ) → up (a -ℤ b) + (down a + up b) ≡ up a + down b + down (a -ℤ b)
minus_is a b = omega (arith, plus-is a (neg_ℤ b), neg_is b)

pub times-is : (a : ℤ) (k : ℕ) → up (a *ℤ pos k) + k * down a ≡ k * up a + down (a *ℤ pos k)
times-is (pos a) k = omega (arith, mul_comm a k, mul_comm k 0, native.Mathlib.Nat.zero-mul k)
times-is (negsuc a) k = omega (arith, mul_comm (suc a) k, mul_comm k 0, native.Mathlib.Nat.zero-mul k, neg_is (pos (suc a * k)))

pub int-equal : (a b : ℤ) → up a + down b ≡ up b + down a → a ≡ b
int-equal (pos a) (pos b) h = let e : a ≡ b = omega arith in ap pos e
int-equal (pos a) (negsuc b) h = absurd (omega arith)
int-equal (negsuc a) (pos b) h = absurd (omega arith)
int-equal (negsuc a) (negsuc b) h = let e : a ≡ b = omega arith in ap negsuc e

pub int-equal⁻ : (a b : ℤ) → a ≡ b → up a + down b ≡ up b + down a
int-equal⁻ a b e = omega (arith, ap up e, ap down e)

pub le_yes : (a b : ℤ) → le_z a b ≡ true → up a + down b ≤ up b + down a
le_yes (pos a) (pos b) e = let h = leb-true a b e in omega arith
le_yes (pos a) (negsuc b) e = no_true e
le_yes (negsuc a) (pos b) e = omega arith
le_yes (negsuc a) (negsuc b) e = let h = leb-true b a e in omega arith

pub le-no : (a b : ℤ) → le_z a b ≡ false → up b + down a < up a + down b
le-no (pos a) (pos b) e = let h = leb-false a b e in omega arith
le-no (pos a) (negsuc b) e = omega arith
le-no (negsuc a) (pos b) e = no_false e
le-no (negsuc a) (negsuc b) e = let h = leb-false b a e in omega arith

pub lt_yes : (a b : ℤ) → lt_z a b ≡ true → up a + down b < up b + down a
lt_yes (pos a) (pos b) e = let h = ltb-true a b e in omega arith
lt_yes (pos a) (negsuc b) e = no_true e
lt_yes (negsuc a) (pos b) e = omega arith
lt_yes (negsuc a) (negsuc b) e = let h = ltb-true b a e in omega arith

pub lt_no : (a b : ℤ) → lt_z a b ≡ false → up b + down a ≤ up a + down b
lt_no (pos a) (pos b) e = let h = ltb-false a b e in omega arith
lt_no (pos a) (negsuc b) e = omega arith
lt_no (negsuc a) (pos b) e = no_false e
lt_no (negsuc a) (negsuc b) e = let h = ltb-false b a e in omega arith

pub yes_le : (a b : ℤ) → up a + down b ≤ up b + down a → le_z a b ≡ true
yes_le (pos a) (pos b) h = le-leb a b (omega arith)
yes_le (pos a) (negsuc b) h = absurd (omega arith)
yes_le (negsuc a) (pos b) h = refl
yes_le (negsuc a) (negsuc b) h = le-leb b a (omega arith)

pub no_le : (a b : ℤ) → up b + down a < up a + down b → le_z a b ≡ false
no_le (pos a) (pos b) h = lt-leb a b (omega arith)
no_le (pos a) (negsuc b) h = refl
no_le (negsuc a) (pos b) h = absurd (omega arith)
no_le (negsuc a) (negsuc b) h = lt-leb b a (omega arith)

pub yes_lt : (a b : ℤ) → up a + down b < up b + down a → lt_z a b ≡ true
yes_lt (pos a) (pos b) h = lt-ltb a b (omega arith)
yes_lt (pos a) (negsuc b) h = absurd (omega arith)
yes_lt (negsuc a) (pos b) h = refl
yes_lt (negsuc a) (negsuc b) h = lt-ltb b a (omega arith)

pub no_lt : (a b : ℤ) → up b + down a ≤ up a + down b → lt_z a b ≡ false
no_lt (pos a) (pos b) h = le-ltb a b (omega arith)
no_lt (pos a) (negsuc b) h = refl
no_lt (negsuc a) (pos b) h = absurd (omega arith)
no_lt (negsuc a) (negsuc b) h = le-ltb b a (omega arith)

-- the ranges
pub fits-int : (w : Width) (z : ℤ) → up z < 2 ^ hbits w + down z → down z ≤ 2 ^ hbits w + up z → SFits w z
fits-int w (pos n) h k = record { sfits = omega arith }
fits-int w (negsuc n) h k = record { sfits = omega arith }

pub int-fits : (w : Width) (z : ℤ) → SFits w z → (up z < 2 ^ hbits w) × (down z ≤ 2 ^ hbits w)
int-fits w (pos n) s = (s.sfits, omega arith)
int-fits w (negsuc n) s = (omega (arith, s.sfits), s.sfits)

-- a number that is not negative is a natural
pub natural-is : (z : ℤ) → down z ≤ up z → (down z ≡ 0) × (up z ≡ nat_abs z)
natural-is (pos n) h = (refl, refl)
natural-is (negsuc n) h = absurd (omega arith)

pub not_neg : (z : ℤ) → down z ≤ up z → T (non_neg z)
not_neg (pos n) h = tt
not_neg (negsuc n) h = absurd (omega arith)

pub ruleset ints = (arith, le_yes, le-no, lt_yes, lt_no, yes_le, no_le, yes_lt, no_lt, int-equal, int-equal⁻)

-- Laws of position keys. `omega` reads an integer z as `up z` less `down z`.
use Prim.Native.Nat.{ℕ, ◌+◌, ◌*◌, ◌-◌, ◌/◌, ◌%◌, ◌^◌, ◌≤◌, ◌<◌}
use mathlib.Core.Path.{◌≡◌}
use mathlib.Core.Bool.{true}
use native.Mathlib.Omega.{arith}
use lib.Signed.{le_z}
use lib.IntN.{ℤ, pos, negsuc, nat_abs, ◌+ℤ◌, ◌*ℤ◌}
use Rattle.std.proofs.lemmas.Int.{ints}
use Rattle.wire.proofs.Tests.{same_test}
use Rattle.wire.proofs.Ints.{up, down, plus-is, minus_is, times-is, int-equal, natural-is, ints as tests}
use Rattle.position.specs.Keys.{between, all_inside, key_of, moved, is_key, lowered, fields}
use Rattle.position.specs.Nodes.{is_block}
use Rattle.position.specs.declared.key.Coordinates.{Coordinates}
use Rattle.position.proofs.Ranges.{between-yes, yes-between, all-inside}

-- ---- what `omega` reads
pub key-is : (x y z : ℤ) → up (key_of x y z) + (16_777_216 * down z + 4096 * down y + down x) ≡ 16_777_216 * up z + 4096 * up y + up x + down (key_of x y z)
unfolding key_of
key-is x y z =
    omega (arith, times-is z 16_777_216, times-is y 4096, plus-is (z *ℤ pos 16_777_216) (y *ℤ pos 4096), plus-is (z *ℤ pos 16_777_216 +ℤ y *ℤ pos 4096) x)

pub moved-is : (k : ℤ) → up (moved k) + down k ≡ up k + 34_368_129_024 + down (moved k)
unfolding moved
moved-is k = omega (arith, plus-is k (pos 34_368_129_024))

pub lowered_is : (n : ℕ) → up (lowered n) + 2048 ≡ n + down (lowered n)
unfolding lowered
lowered_is n = omega (arith, minus_is (pos n) (pos 2048))

-- ---- valid keys
-- their range, as it stands
pub key-range : (k : ℤ) → between (negsuc 34_368_129_023) k (pos 34_351_347_711) ≡ is_key k
unfolding between is_key
key-range k =
    let m = moved-is k in
    let low : le_z (negsuc 34_368_129_023) k ≡ le_z (pos 0) (moved k) = same_test _ (λ e. omega tests) (λ e. omega tests) in
    let high : le_z k (pos 34_351_347_711) ≡ le_z (moved k) (pos (2 ^ 36 - 1)) = same_test _ (λ e. omega tests) (λ e. omega tests) in
    cc

pub is_key-yes : (k : ℤ) → is_key k ≡ true → (nat_abs (moved k) + down k ≡ up k + 34_368_129_024) × (nat_abs (moved k) < 2 ^ 36)
unfolding is_key
is_key-yes k e =
    let h = between-yes (pos 0) (moved k) (pos (2 ^ 36 - 1)) e in
    let w = natural-is (moved k) (omega arith) in
    (omega (arith, moved-is k), omega arith)

pub yes-is_key : (k : ℤ) → down k ≤ up k + 34_368_129_024 → up k ≤ down k + 34_351_347_711 → is_key k ≡ true
unfolding is_key
yes-is_key k h g = yes-between (pos 0) (moved k) (pos (2 ^ 36 - 1)) (omega (arith, moved-is k)) (omega (arith, moved-is k))

-- a triple in range has a valid key
pub key-valid : (x y z : ℤ) → all_inside x y z ≡ true → is_key (key_of x y z) ≡ true
key-valid x y z e =
    let h = all-inside x y z e in
    let k = key-is x y z in
    yes-is_key (key_of x y z) (omega arith) (omega arith)

-- ---- fields
lowered-back : (n : ℕ) (c : ℤ) → n + down c ≡ up c + 2048 → lowered n ≡ c
lowered-back n c h = int-equal (lowered n) c (omega (arith, lowered_is n))

-- two places are equal by their coordinates
pub same_place : {a b : Coordinates} → a.x ≡ b.x → a.y ≡ b.y → a.z ≡ b.z → a ≡ b
same_place p q r = λ i. record { x = p i; y = q i; z = r i }

-- three digits below 4096 are read back
digits : (a b c s : ℕ) → a < 4096 → b < 4096 → s ≡ 16_777_216 * c + 4096 * b + a → (s % 4096 ≡ a) × (s / 4096 % 4096 ≡ b) × (s / 16_777_216 ≡ c)
digits a b c s ha hb e = (omega arith, omega arith, omega arith)

pub splits : (x y z : ℤ) → all_inside x y z ≡ true → fields (nat_abs (moved (key_of x y z))) ≡ record { x = x; y = y; z = z }
splits x y z e =
    let h = all-inside x y z e in
    let k = key-is x y z in
    let v = is_key-yes (key_of x y z) (key-valid x y z e) in
    let d = digits (up x + 2048 - down x) (up y + 2048 - down y) (up z + 2048 - down z) (nat_abs (moved (key_of x y z))) (omega arith) (omega arith) (omega arith) in
    same_place (lowered-back _ x (omega arith)) (lowered-back _ y (omega arith)) (lowered-back _ z (omega arith))

pub fields-inside : (k : ℤ) → is_key k ≡ true → is_block (fields (nat_abs (moved k))) ≡ true
unfolding between lowered is_key moved
fields-inside k e = grind (arith, ints)

pub joins : (k : ℤ) → is_key k ≡ true → let c = fields (nat_abs (moved k)) in key_of c.x c.y c.z ≡ k
joins k e =
    let v = is_key-yes k e in
    let s = nat_abs (moved k) in
    let c = fields s in
    int-equal (key_of c.x c.y c.z) k (omega (arith, key-is c.x c.y c.z, lowered_is (s % 4096), lowered_is (s / 4096 % 4096), lowered_is (s / 16_777_216)))

-- The Python of source document 000, on keys of coordinates in range. `omega` reads an integer z as `up z` less `down z`.
use Prim.Native.Nat.{ℕ, suc, ◌+◌, ◌*◌, ◌-◌, ◌/◌, ◌%◌, ◌<◌}
use mathlib.Core.Path.{◌≡◌, refl, ap, ◌∙◌}
use mathlib.Core.Bool.{Bool, true, false}
use native.Mathlib.Omega.{arith}
use lib.Dec.{ltb}
use lib.IntN.{ℤ, pos, negsuc, neg_ℤ, ◌+ℤ◌, ◌-ℤ◌, ◌*ℤ◌}
use borrow.Author.Tests.{ltb-true, ltb-false}
use Rattle.wire.proofs.Ints.{up, down, plus-is, minus_is, times-is, neg_is, int-equal}
use Rattle.position.specs.Keys.{all_inside, key_of}
use Rattle.position.specs.Python.{modulo, quotient, unsigned_to_signed, coordinate, left, get_integer_as_block}
use Rattle.position.proofs.Ranges.{InRange, all-inside}
use Rattle.position.proofs.Keys.{key-is, same_place}

-- a remainder, and a number in range that differs from it by so many times 4096
signed_back : (r : ℕ) (a : ℤ) (s t : ℕ) → r < 4096 → InRange a → r + down a + 4096 * s ≡ up a + 4096 * t → unsigned_to_signed r 2048 ≡ a
unfolding unsigned_to_signed
signed_back r a s t h g e = go (ltb r 2048) refl
  where
    go : (b : Bool) → ltb r 2048 ≡ b → unsigned_to_signed r 2048 ≡ a
    go true f = let k = ltb-true r 2048 f in rw f (int-equal (pos r) a (omega arith))
    go false f = let k = ltb-false r 2048 f in rw f (int-equal (pos r -ℤ pos 4096) a (omega (arith, minus_is (pos r) (pos 4096))))

-- i is 4096·q + a
abbrev Apart : ℤ → ℤ → ℤ → Type 0
Apart i q a = up i + (4096 * down q + down a) ≡ 4096 * up q + up a + down i

coordinate-is : (i q a : ℤ) → InRange a → Apart i q a → coordinate i ≡ a
unfolding modulo
coordinate-is (pos n) q a g e = signed_back (n % 4096) a (n / 4096 + down q) (up q) (omega arith) g (omega arith)
coordinate-is (negsuc n) q a g e = signed_back (4096 - suc (n % 4096)) a (down q) (up q + n / 4096 + 1) (omega arith) g (omega arith)

quotient_is : (i q : ℤ) → Apart i q (pos 0) → quotient i 4096 ≡ q
unfolding quotient
quotient_is (pos n) q e = int-equal (pos (n / 4096)) q (omega arith)
quotient_is (negsuc n) q e = int-equal (neg_ℤ (pos (suc n / 4096))) q (omega (arith, neg_is (pos (suc n / 4096))))

left_is : (i q a : ℤ) → InRange a → Apart i q a → left i ≡ q
left_is i q a g e = rw (coordinate-is i q a g e) (quotient_is (i -ℤ a) q (omega (arith, minus_is i a)))

pub python-splits : (x y z : ℤ) → all_inside x y z ≡ true → get_integer_as_block (key_of x y z) ≡ record { x = x; y = y; z = z }
python-splits x y z e =
    let h = all-inside x y z e in
    let i = key_of x y z in
    let j = z *ℤ pos 4096 +ℤ y in
    let above : Apart j z y = omega (arith, times-is z 4096, plus-is (z *ℤ pos 4096) y) in
    let whole : Apart i j x = omega (arith, key-is x y z) in
    let last : Apart z (pos 0) z = omega arith in
    let second : left i ≡ j = left_is i j x h.0 whole in
    let third : left (left i) ≡ z = ap left second ∙ left_is j z y h.1 above in
    same_place (coordinate-is i j x h.0 whole) (ap coordinate second ∙ coordinate-is j z y h.1 above) (ap coordinate third ∙ coordinate-is z (pos 0) z h.2 last)

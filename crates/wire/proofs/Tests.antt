-- Laws of tests.
use mathlib.Core.Path.{◌≡◌, refl, sym}
use mathlib.Core.Bool.{Bool, true, false, ◌&&◌}
use mathlib.Core.Logic.{◌⊎◌, inl, inr}
use Rattle.wire.specs.Choice.{no_true}

pub and_yes : (a b : Bool) → (a && b) ≡ true → (a ≡ true) × (b ≡ true)
and_yes true b e = (refl, e)
and_yes false b e = no_true e

pub yes_and : {a b : Bool} → a ≡ true → b ≡ true → (a && b) ≡ true
yes_and p q = rw (p, q)

pub and_no : (a b : Bool) → (a ≡ false) ⊎ (b ≡ false) → (a && b) ≡ false
and_no a b (inl e) = rw e
and_no true b (inr e) = e
and_no false b (inr e) = refl

pub three-yes : (a b c : Bool) → (a && (b && c)) ≡ true → (a ≡ true) × (b ≡ true) × (c ≡ true)
three-yes a b c e =
    let h = and_yes a (b && c) e in
    let k = and_yes b c h.1 in
    (h.0, k.0, k.1)

pub yes-three : {a b c : Bool} → a ≡ true → b ≡ true → c ≡ true → (a && (b && c)) ≡ true
yes-three p q r = rw (p, q, r)

-- two tests that hold together and fail together
pub same_test : (t : Bool) {u : Bool} → (t ≡ true → u ≡ true) → (t ≡ false → u ≡ false) → t ≡ u
same_test true f g = sym (f refl)
same_test false f g = sym (g refl)

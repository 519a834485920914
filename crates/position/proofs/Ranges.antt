-- Ranges. `omega` reads an integer z as `up z` less `down z`.
use Prim.Native.Nat.{◌+◌, ◌≤◌}
use mathlib.Core.Path.{◌≡◌}
use mathlib.Core.Bool.{true}
use native.Mathlib.Omega.{arith}
use lib.IntN.{ℤ, pos, negsuc}
use lib.Signed.{le_z}
use Rattle.wire.proofs.Tests.{and_yes, yes_and, three-yes}
use Rattle.wire.proofs.Ints.{up, down, le_yes, yes_le}
use Rattle.position.specs.Keys.{between, inside, all_inside}

-- ---- ranges
pub between-yes : (a c b : ℤ) → between a c b ≡ true → (up a + down c ≤ up c + down a) × (up c + down b ≤ up b + down c)
unfolding between
between-yes a c b e =
    let h = and_yes (le_z a c) (le_z c b) e in
    (le_yes a c h.0, le_yes c b h.1)

pub yes-between : (a c b : ℤ) → up a + down c ≤ up c + down a → up c + down b ≤ up b + down c → between a c b ≡ true
unfolding between
yes-between a c b h k = yes_and (yes_le a c h) (yes_le c b k)

-- ---- block coordinates
abbrev pub InRange : ℤ → Type 0
InRange c = (up c ≤ 2047 + down c) × (down c ≤ 2048 + up c)

pub inside-yes : (c : ℤ) → inside c ≡ true → InRange c
inside-yes c e = let h = between-yes (negsuc 2047) c (pos 2047) e in (omega arith, omega arith)

pub insides : (x y z : ℤ) → all_inside x y z ≡ true → (inside x ≡ true) × (inside y ≡ true) × (inside z ≡ true)
insides x y z = three-yes (inside x) (inside y) (inside z)

pub all-inside : (x y z : ℤ) → all_inside x y z ≡ true → InRange x × InRange y × InRange z
all-inside x y z e =
    let h = insides x y z e in
    (inside-yes x h.0, inside-yes y h.1, inside-yes z h.2)

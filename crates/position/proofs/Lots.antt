-- Laws of lots. `omega` reads an integer z as `up z` less `down z`.
use Prim.Native.Nat.{◌+◌, ◌≤◌}
use mathlib.Core.Path.{◌≡◌}
use mathlib.Core.Bool.{true}
use native.Mathlib.Omega.{arith}
use lib.IntN.{ℤ, pos, negsuc}
use lib.Signed.{le_z}
use Rattle.wire.proofs.Tests.{and_yes, yes_and}
use Rattle.wire.proofs.Ints.{up, down, le_yes, yes_le}
use Rattle.position.specs.Keys.{between}
use Rattle.position.specs.Lots.{axis}
use Rattle.position.proofs.Ranges.{between-yes, yes-between}

-- -32768 ≤ a ≤ b ≤ 32767
abbrev pub Axis : ℤ → ℤ → Type 0
Axis a b = (down a ≤ 32768 + up a) × (up a + down b ≤ up b + down a) × (up b ≤ 32767 + down b)

pub axis-yes : (a b : ℤ) → axis a b ≡ true → Axis a b
unfolding axis
axis-yes a b e =
    let h = and_yes (le_z (negsuc 32767) a) (between a b (pos 32767)) e in
    let l = le_yes (negsuc 32767) a h.0 in
    let g = between-yes a b (pos 32767) h.1 in
    (omega arith, g.0, omega arith)

pub yes-axis : (a b : ℤ) → Axis a b → axis a b ≡ true
unfolding axis
yes-axis a b h = yes_and (yes_le (negsuc 32767) a (omega arith)) (yes-between a b (pos 32767) h.1 (omega arith))

-- Laws of nodes. `omega` reads an integer z as `up z` less `down z`.
use Prim.Native.Nat.{ℕ, ◌+◌, ◌*◌, ◌/◌, ◌%◌, ◌<◌}
use mathlib.Core.Path.{◌≡◌}
use mathlib.Core.Bool.{true}
use native.Mathlib.Omega.{arith}
use lib.IntN.{ℤ, pos, negsuc, ◌*ℤ◌}
use Rattle.wire.proofs.Ints.{up, down, plus-is, times-is, int-equal, int-equal⁻}
use Rattle.position.specs.Keys.{between, inside}
use Rattle.position.specs.Nodes.{axis_coordinate}
use Rattle.std.proofs.lemmas.Int.{ints}

pub node-is : (c : ℤ) (n : ℕ) → up (axis_coordinate c n) + 16 * down c ≡ 16 * up c + n + down (axis_coordinate c n)
unfolding axis_coordinate
node-is c n = omega (arith, times-is c 16, plus-is (c *ℤ pos 16) (pos n))

-- a node of a block in range lies in the world, on each axis
pub node-in-world : (c : ℤ) (n : ℕ) → inside c ≡ true → n < 16 → between (negsuc 32767) (axis_coordinate c n) (pos 32767) ≡ true
unfolding between axis_coordinate
node-in-world c n e h = grind (arith, ints)

-- a node's coordinate tells the block's and the step within it
pub node-apart : (c d : ℤ) (n m : ℕ) → n < 16 → m < 16 → axis_coordinate c n ≡ axis_coordinate d m → (c ≡ d) × (n ≡ m)
node-apart c d n m hn hm e =
    let p = node-is c n in
    let q = node-is d m in
    let r = int-equal⁻ _ _ e in
    (int-equal c d (omega arith), omega arith)

-- an index is its three digits
pub index_is : (i : ℕ) → i ≡ 256 * (i / 256) + 16 * (i / 16 % 16) + i % 16
index_is i = omega arith

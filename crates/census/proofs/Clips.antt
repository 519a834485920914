-- A lot clipped to a block. `omega` reads an integer z as `up z` less `down z`.
use Rattle.std.proofs.Common.{◌≡◌, ℕ, ◌+◌, ◌*◌, ◌/◌, ◌%◌, ◌<◌, ◌≤◌, Bool, true, false, ◌&&◌, ltb, leb, List, ℤ, pos, negsuc, ◌+ℤ◌, ◌-ℤ◌, ◌*ℤ◌, sym, refl, ap, arith, ltb-false, ltb-true, leb-false, leb-true}
use lib.Signed.{le_z}
use Rattle.wire.proofs.Ints.{up, down, plus-is, minus_is, times-is, yes_le, no_le}
use Rattle.mapblock.specs.Params.{id_in}
use Rattle.position.specs.Keys.{between}
use Rattle.position.specs.Nodes.{axis_coordinate}
use Rattle.position.specs.declared.key.Coordinates.{Coordinates}
use Rattle.position.specs.declared.lot.Lot.{Lot}
use Rattle.position.proofs.Nodes.{node-is}
use Rattle.census.specs.CountsById.{in_lot_at, in_lot_with, CountsById, Raised}
use Rattle.census.specs.Counters.{is_at}
use Rattle.census.specs.Clamps.{clamp_of, below_of, upto_of}
use Rattle.census.specs.Clips.{in_interval, in_clip, clip_with}
use Rattle.census.specs.declared.clip.Clip.{Clip}
use Rattle.census.proofs.Raises.{raised-as}

-- ---- a number held to 0..16
clamp-up : (d : ℤ) (x : ℕ) → x < clamp_of d → x + down d < up d
clamp-up (pos n) x h = omega arith
clamp-up (negsuc n) x h = omega arith

clamp-down : (d : ℤ) (x : ℕ) → x < 16 → clamp_of d ≤ x → up d ≤ x + down d
clamp-down (pos n) x h k = omega arith
clamp-down (negsuc n) x h k = omega arith

pub clamped : (d : ℤ) {n : ℕ} → n ≡ clamp_of d → n ≤ 16
clamped (pos n) e = omega (arith, e)
clamped (negsuc n) e = omega (arith, e)

-- ---- one axis
low-is : (v b : ℤ) → up (v -ℤ b *ℤ pos 16) + (down v + 16 * up b) ≡ up v + 16 * down b + down (v -ℤ b *ℤ pos 16)
low-is v b = omega (arith, minus_is v (b *ℤ pos 16), times-is b 16)

high_is : (v b : ℤ) (m : ℕ) → up (v -ℤ b *ℤ pos 16 +ℤ pos m) + (down v + 16 * up b) ≡ up v + 16 * down b + m + down (v -ℤ b *ℤ pos 16 +ℤ pos m)
high_is v b m = omega (arith, low-is v b, plus-is (v -ℤ b *ℤ pos 16) (pos m))

low-side : (a b : ℤ) (x : ℕ) → x < 16 → (t : Bool) → leb (below_of a b) x ≡ t → t ≡ le_z a (axis_coordinate b x)
low-side a b x h true e = sym (yes_le a (axis_coordinate b x) (omega (arith, clamp-down (a -ℤ b *ℤ pos 16) x h (leb-true _ _ e), low-is a b, node-is b x)))
low-side a b x h false e = sym (no_le a (axis_coordinate b x) (omega (arith, clamp-up (a -ℤ b *ℤ pos 16) x (leb-false _ _ e), low-is a b, node-is b x)))

high-side : (g b : ℤ) (x : ℕ) → x < 16 → (t : Bool) → ltb x (upto_of g b) ≡ t → t ≡ le_z (axis_coordinate b x) g
high-side g b x h true e = sym (yes_le (axis_coordinate b x) g (omega (arith, clamp-up (g -ℤ b *ℤ pos 16 +ℤ pos 1) x (ltb-true _ _ e), high_is g b 1, node-is b x)))
high-side g b x h false e = sym (no_le (axis_coordinate b x) g (omega (arith, clamp-down (g -ℤ b *ℤ pos 16 +ℤ pos 1) x h (ltb-false _ _ e), high_is g b 1, node-is b x)))

clipped : (a b g : ℤ) (x : ℕ) → x < 16 → between a (axis_coordinate b x) g ≡ in_interval (below_of a b) x (upto_of g b)
unfolding in_interval between
clipped a b g x h = sym (λ i. low-side a b x h (leb (below_of a b) x) refl i && high-side g b x h (ltb x (upto_of g b)) refl i)

-- ---- the clip of a lot has exactly the lot's nodes
pub record IsClip (l : Lot) (c : Coordinates) (b : Clip) : Type 0 where
  pub x : (b.x0 ≡ below_of l.x0 c.x) × (b.x1 ≡ upto_of l.x1 c.x)
  pub y : (b.y0 ≡ below_of l.y0 c.y) × (b.y1 ≡ upto_of l.y1 c.y)
  pub z : (b.z0 ≡ below_of l.z0 c.z) × (b.z1 ≡ upto_of l.z1 c.z)

clip-is-lot : (l : Lot) (c : Coordinates) (b : Clip) → IsClip l c b → (i : ℕ) → i < 4096 → in_lot_at l c i ≡ in_clip b i
clip-is-lot l c b w i h =
    rw (clipped l.x0 c.x l.x1 (i % 16) (omega arith), clipped l.y0 c.y l.y1 (i / 16 % 16) (omega arith), clipped l.z0 c.z l.z1 (i / 256) (omega arith), w.x.0, w.x.1, w.y.0, w.y.1, w.z.0, w.z.1)

-- the counters of a clip are those of the lot
pub lot-counted : (v : ℕ) (s : List ℕ) (l : Lot) (c : Coordinates) {b : Clip} {old new : List ℕ} → IsClip l c b → Raised (clip_with b (id_in v s)) 0 4096 old new → CountsById v s l c old new
lot-counted v s l c {b} w r =
    raised-as (in_lot_with v s l c) (clip_with b (id_in v s)) 0 4096 r (λ k i h g. ap (λ (x : Bool). x && is_at (id_in v s) k i) (clip-is-lot l c b w i (omega arith)))

-- Lots: document 01, 'Tallies, lots, spans, sheets'.
use Rattle.std.specs.Prelude.{Bool, cond, ◌&&◌, Option, Some, None, ℤ, pos, negsuc}
use Rattle.std.specs.Int.Signed.{le_z}
use Rattle.wire.specs.Answer.{Answer, good, plain, bad_part}
use Rattle.position.specs.Keys.{between}
use Rattle.position.specs.declared.lot.Lot.{Lot}

-- both ends are inside
abbrev pub in_lot : Lot → ℤ → ℤ → ℤ → Bool
in_lot l x y z = between l.x0 x l.x1 && (between l.y0 y l.y1 && between l.z0 z l.z1)

-- the least and the greatest on one axis: in the world, -32768..32767, and not turned round
unfoldable pub axis : ℤ → ℤ → Bool
axis a b = le_z (negsuc 32767) a && between a b (pos 32767)

abbrev pub good_lot : Lot → Bool
good_lot l = axis l.x0 l.x1 && (axis l.y0 l.y1 && axis l.z0 l.z1)

-- least x, y, z, then greatest x, y, z
abbrev pub lot_at : ℤ → ℤ → ℤ → ℤ → ℤ → ℤ → Lot
lot_at a b c d e f = record { x0 = a; y0 = b; z0 = c; x1 = d; y1 = e; z1 = f }

unfoldable pub lot_of : ℤ → ℤ → ℤ → ℤ → ℤ → ℤ → Answer Lot
lot_of a b c d e f = cond (good_lot (lot_at a b c d e f)) (good (lot_at a b c d e f)) (plain bad_part)

abbrev pub world : Lot
world = lot_at (negsuc 32767) (negsuc 32767) (negsuc 32767) (pos 32767) (pos 32767) (pos 32767)

-- what the code's answer says
abbrev pub told_lot : Option Lot → Answer Lot
told_lot (Some l) = good l
told_lot None = plain bad_part

-- Cuts: document 01, 'Cuts and merges'.
use Rattle.std.specs.Prelude.{◌≡◌, ℕ, ◌+◌, Bool, true, ◌&&◌, List, [], ◌∷◌, ◌++◌, ℤ, pos, ◌+ℤ◌, nat_le}
use Rattle.wire.specs.Choice.{bit}
use Rattle.position.specs.Keys.{between}
use Rattle.position.specs.Lots.{lot_at}
use Rattle.position.specs.Spans.{span_at}
use Rattle.position.specs.declared.lot.Lot.{Lot}
use Rattle.position.specs.declared.part.Part.{Part}
use Rattle.position.specs.Parts.{good_part}
use Rattle.meter.specs.Standing.{Node, in_part}

-- between c and c + 1 on an axis, or at a second
pub data Cut : Type 0 where
  on-x : ℤ → Cut
  on-y : ℤ → Cut
  on-z : ℤ → Cut
  at_second : ℕ → Cut

-- both c and c + 1 are in the lot
abbrev pub both_in : ℤ → ℤ → ℤ → Bool
both_in a c b = between a c b && between a (c +ℤ pos 1) b

-- on the axis; a second is not below from and not above until
abbrev pub allowed : Cut → Part → Bool
allowed (on-x c) p = both_in p.lot.x0 c p.lot.x1
allowed (on-y c) p = both_in p.lot.y0 c p.lot.y1
allowed (on-z c) p = both_in p.lot.z0 c p.lot.z1
allowed (at_second s) p = nat_le p.span.from s && nat_le s p.span.until

abbrev pub with_lot : Part → Lot → Part
with_lot p l = record { lot = l; span = p.span }

-- one part has c as its greatest there, or ends at s
abbrev pub lower : Cut → Part → Part
lower (on-x c) p = let l = p.lot in with_lot p (lot_at l.x0 l.y0 l.z0 c l.y1 l.z1)
lower (on-y c) p = let l = p.lot in with_lot p (lot_at l.x0 l.y0 l.z0 l.x1 c l.z1)
lower (on-z c) p = let l = p.lot in with_lot p (lot_at l.x0 l.y0 l.z0 l.x1 l.y1 c)
lower (at_second s) p = record { lot = p.lot; span = span_at p.span.from s }

-- the other c + 1 as its least, or begins at s
abbrev pub upper : Cut → Part → Part
upper (on-x c) p = let l = p.lot in with_lot p (lot_at (c +ℤ pos 1) l.y0 l.z0 l.x1 l.y1 l.z1)
upper (on-y c) p = let l = p.lot in with_lot p (lot_at l.x0 (c +ℤ pos 1) l.z0 l.x1 l.y1 l.z1)
upper (on-z c) p = let l = p.lot in with_lot p (lot_at l.x0 l.y0 (c +ℤ pos 1) l.x1 l.y1 l.z1)
upper (at_second s) p = record { lot = p.lot; span = span_at s p.span.until }

-- document 01's list of cuts: from the whole, each puts two parts in the place of one
pub data Cuts (whole : Part) : List Part → Type 0 where
  uncut : Cuts whole (whole ∷ [])
  cut : (front : List Part) (p : Part) (back : List Part) (c : Cut) → Cuts whole (front ++ p ∷ back) → allowed c p ≡ true
      → Cuts whole (front ++ lower c p ∷ upper c p ∷ back)

-- ---- what cuts leave: parts of which each node of the whole lies in exactly one, and no other node in any
-- in how many of the parts a node lies
abbrev pub shares : List Part → Node → ℕ
shares [] x = 0
shares (p ∷ ps) x = bit (in_part p x) + shares ps x

abbrev pub all_good : List Part → Bool
all_good [] = true
all_good (p ∷ ps) = good_part p && all_good ps

pub record Partition (whole : Part) (parts : List Part) : Type 0 where
  pub shared : (x : Node) → shares parts x ≡ bit (in_part whole x)
  pub good : all_good parts ≡ good_part whole

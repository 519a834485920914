-- Entries that are bytes.
use Prim.Native.Nat.{ℕ}
use mathlib.Core.Path.{◌≡◌, refl}
use mathlib.Core.List.{List, [], ◌∷◌}
use lib.Dec.{ltb}
use Rattle.std.specs.List.{list_all}
use Rattle.block_writer.specs.BlockParts.{all_below}

pub below-all : (m : ℕ) (l : List ℕ) → list_all (λ x. ltb x m) l ≡ all_below m l
unfolding all_below
below-all m [] = refl
below-all m (x ∷ l) = rw (below-all m l)

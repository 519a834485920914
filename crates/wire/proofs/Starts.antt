-- The library's test of a slice's front, as the definitions have it.
use Prim.Native.Nat.{ℕ, ◌-◌, min}
use mathlib.Core.Path.{◌≡◌, refl, ap, ◌∙◌}
use mathlib.Core.List.{List, [], ◌∷◌}
use mathlib.Core.Bool.{Bool, true, false, cond, ◌&&◌}
use lib.Dec.{eqb}
use lib.ListN.{length, take, drop}
use Rattle.std.specs.List.{starts_with}
use Rattle.std.proofs.lemmas.List.{drop_min}
use Rattle.wire.specs.Marks.{starts}
use Rattle.wire.proofs.Lists.{rest-is}

and-is : (a b : Bool) → (a && b) ≡ cond a b false
and-is true b = refl
and-is false b = refl

pub starts-with : (m l : List ℕ) → starts_with eqb l m ≡ starts m l
starts-with [] l = refl
starts-with (m ∷ ms) [] = refl
starts-with (m ∷ ms) (x ∷ xs) = ap (λ (b : Bool). eqb m x && b) (starts-with ms xs) ∙ and-is (eqb m x) (starts ms xs)

-- what stands from a place on; at the end, where the place is past it
pub rest-from : (at : ℕ) (s : List ℕ) {m : ℕ} → m ≡ min at (length s) → take (length s - m) (drop m s) ≡ drop at s
rest-from at s {m} e = rest-is m s ∙ rw e (drop_min at s)

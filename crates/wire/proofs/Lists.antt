-- Laws of lists beyond the logic's own.
use Prim.Native.Nat.{ℕ, ◌+◌, ◌-◌, ◌<◌}
use mathlib.Core.Path.{◌≡◌, refl}
use mathlib.Core.List.{List, [], ◌∷◌}
use native.Mathlib.Nat.{le_refl}
use native.Mathlib.Numerals.{add-one}
use native.Mathlib.Omega.{arith}
use lib.ListN.{length, get_or, take, drop, length-drop}
use lib.Seq.{take_all, drop-cons}

-- a slice that goes to the end
pub rest-is : {A : Type 0} (n : ℕ) (l : List A) → take (length l - n) (drop n l) ≡ drop n l
rest-is n l = take_all (length l - n) (drop n l) (rw length-drop (le_refl (length l - n)))

pub nil_is : {A : Type 0} (l : List A) → length l ≡ 0 → l ≡ []
nil_is [] h = refl
nil_is (x ∷ l) h = absurd (omega arith)

-- the first of what is left
pub drop-next : (l : List ℕ) (i : ℕ) → i < length l → drop i l ≡ get_or l i 0 ∷ drop (i + 1) l
drop-next l i h = rw (add-one i) (drop-cons l i 0 h)

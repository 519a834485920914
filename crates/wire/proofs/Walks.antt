-- Laws of rows taken from the front.
use Prim.Native.Nat.{ℕ, suc}
use mathlib.Core.Path.{◌≡◌, refl, ap, ap₂}
use mathlib.Core.List.{List, [], ◌∷◌, ◌++◌, map}
use lib.ListN.{length}
use Rattle.wire.specs.Walk.{walk}

-- ---- laws
-- `Held s l` says that the bytes s hold the rows l and nothing else.
module _ {A B : Type 0} (Held : List ℕ → List A → Type 0) (behind : List ℕ → List ℕ) (look : List ℕ → B) (shown : A → B)
    (nothing : (s : List ℕ) → Held s [] → s ≡ [])
    (front : (s : List ℕ) (a : A) (l : List A) → Held s (a ∷ l) → look s ≡ shown a)
    (rest : (s : List ℕ) (a : A) (l : List A) → Held s (a ∷ l) → Held (behind s) l) where
  pub walk_rows : (s : List ℕ) (l : List A) → Held s l → walk behind look (length l) s ≡ map shown l
  unfolding walk
  walk_rows s [] h = refl
  walk_rows s (a ∷ l) h = ap₂ (λ (x : B) (y : List B). x ∷ y) (front s a l h) (walk_rows (behind s) l (rest s a l h))

  -- and what is seen behind the last
  pub walk_ends : (s : List ℕ) (l : List A) → Held s l → walk behind look (suc (length l)) s ≡ map shown l ++ look [] ∷ []
  unfolding walk
  walk_ends s [] h = ap (λ (t : List ℕ). look t ∷ []) (nothing s h)
  walk_ends s (a ∷ l) h = ap₂ (λ (x : B) (y : List B). x ∷ y) (front s a l h) (walk_ends (behind s) l (rest s a l h))

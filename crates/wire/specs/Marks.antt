-- Fixed marks at the front of a list: the `EndInventory` line of document 01's 'Block layout', `TLY` and `WSH` of its 'Tallies, lots, spans, sheets'.
use Rattle.std.specs.Prelude.{ℕ, ◌≤◌, ◌≡◌, refl, List, [], ◌∷◌, ◌++◌, Bool, true, false, cond, eqb, length, take}
use Rattle.std.proofs.Common.{zero-le, suc-le-suc, ap, ap₂, arith, eqb-true}
use Rattle.wire.specs.Choice.{cond_yes, no_true}

-- the list begins with the mark
abbrev pub starts : List ℕ → List ℕ → Bool
starts [] l = true
starts (m ∷ ms) [] = false
starts (m ∷ ms) (x ∷ xs) = cond (eqb m x) (starts ms xs) false

pub starts-long : (m l : List ℕ) → starts m l ≡ true → length m ≤ length l
starts-long [] l e = zero-le
starts-long (m ∷ ms) [] e = no_true e
starts-long (m ∷ ms) (x ∷ xs) e = suc-le-suc (starts-long ms xs (cond_yes (eqb m x) (starts ms xs) e).1)

-- what follows the mark is not looked at
pub starts-take : (m l : List ℕ) → starts m (take (length m) l) ≡ starts m l
starts-take [] l = refl
starts-take (m ∷ ms) [] = refl
starts-take (m ∷ ms) (x ∷ xs) = ap (λ (b : Bool). cond (eqb m x) b false) (starts-take ms xs)

pub starts-append : (m l t : List ℕ) → length m ≤ length l → starts m (l ++ t) ≡ starts m l
starts-append [] l t h = refl
starts-append (m ∷ ms) [] t h = absurd (omega arith)
starts-append (m ∷ ms) (x ∷ xs) t h = rw (starts-append ms xs t (omega arith))

-- a list as long as the mark that begins with it is the mark
pub starts-whole : (m l : List ℕ) → starts m l ≡ true → length l ≡ length m → m ≡ l
starts-whole [] [] e h = refl
starts-whole [] (x ∷ xs) e h = absurd (omega arith)
starts-whole (m ∷ ms) [] e h = no_true e
starts-whole (m ∷ ms) (x ∷ xs) e h =
    let y = cond_yes (eqb m x) (starts ms xs) e in
    ap₂ (λ (a : ℕ) (l : List ℕ). a ∷ l) (eqb-true m x y.0) (starts-whole ms xs y.1 (omega arith))

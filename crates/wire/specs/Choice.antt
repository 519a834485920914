-- A test as a number, and the laws of tests that proofs cite.
use Rattle.std.specs.Prelude.{ℕ, ◌≡◌, refl, Bool, true, false, cond, ◌⊎◌}
use Rattle.std.proofs.Common.{inl, inr, arith}

-- 1 where it holds, else 0
abbrev pub bit : Bool → ℕ
bit b = cond b 1 0

pub no_true {ℓ} : {C : Type ℓ} → false ≡ true → C
no_true e = let z : ◌≡◌ {A = ℕ} 0 1 = cc in absurd (omega arith)

pub no_false {ℓ} : {C : Type ℓ} → true ≡ false → C
no_false e = let z : ◌≡◌ {A = ℕ} 0 1 = cc in absurd (omega arith)

-- a choice between a value and false
pub cond_yes : (a b : Bool) → cond a b false ≡ true → (a ≡ true) × (b ≡ true)
cond_yes true b e = (refl, e)
cond_yes false b e = no_true e

-- of two ways, what the second leads to
pub or-so {ℓ} : {X A B : Type ℓ} → (A → B) → X ⊎ A → X ⊎ B
or-so f (inl x) = inl x
or-so f (inr a) = inr (f a)

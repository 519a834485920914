-- The first number that passes a test: one law for each way on.
use Prim.Native.Nat.{ℕ, zero, suc, ◌+◌, ◌-◌, ◌<◌, ◌≤◌}
use mathlib.Core.Path.{◌≡◌, refl, sym, subst}
use mathlib.Core.Option.{some, none, none-ne-some}
use mathlib.Core.List.{List}
use mathlib.Core.Bool.{Bool, true, false, cond}
use native.Mathlib.Numerals.{add-one}
use native.Mathlib.Omega.{arith}
use lib.Dec.{eqb}
use lib.ListN.{get_or}
use borrow.Author.Tests.{eqb-true, eqb-false, eq-eqb, ne_eqb}
use Rattle.mapblock.specs.Block.{first_from}
use Rattle.mapblock.specs.Table.{free_in}

module _ (test : ℕ → Bool) where
  -- ---- a loop that stands at i, and goes up to a last number
  module _ (last i : ℕ) where
    pub first-here : i < last → test i ≡ true → first_from test (last - i) i ≡ some i
    unfolding first_from
    first-here h e = let n : last - i ≡ suc (last - (i + 1)) = omega arith in rw (n, e)

    pub first_on : i < last → test i ≡ false → first_from test (last - i) i ≡ first_from test (last - (i + 1)) (i + 1)
    unfolding first_from
    first_on h e = let n : last - i ≡ suc (last - (i + 1)) = omega arith in rw (n, e, add-one i)

    pub first-end : last ≤ i → first_from test (last - i) i ≡ none
    unfolding first_from
    first-end h = let n : last - i ≡ 0 = omega arith in rw n

  -- ---- what is found, and that nothing is
  pub first_below : (n i : ℕ) {j : ℕ} → some j ≡ first_from test n i → j < i + n
  unfolding first_from
  first_below zero i {j} h = absurd (none-ne-some j (sym h))
  first_below (suc n) i {j} h = go (test i) h (λ k. first_below n (suc i) k)
    where
      go : (b : Bool) → some j ≡ cond b (some i) (first_from test n (suc i)) → (some j ≡ first_from test n (suc i) → j < suc i + n) → j < i + suc n
      go true e ih = let z : j ≡ i = cc in omega arith
      go false e ih = omega (arith, ih e)

  pub first-none : (n i : ℕ) → ((j : ℕ) → i ≤ j → j < i + n → test j ≡ false) → first_from test n i ≡ none
  unfolding first_from
  first-none zero i h = refl
  first-none (suc n) i h = rw (h i (omega arith) (omega arith)) (first-none n (suc i) (λ j p q. h j (omega arith) (omega arith)))

  pub none-fails : (n i : ℕ) → first_from test n i ≡ none → (j : ℕ) → i ≤ j → j < i + n → test j ≡ false
  unfolding first_from
  none-fails zero i h j p q = absurd (omega arith)
  none-fails (suc n) i h j p q = by (test i) refl h (eqb j i) refl (none-fails n (suc i))
    where
      by : (c : Bool) → test i ≡ c → cond c (some i) (first_from test n (suc i)) ≡ none → (d : Bool) → eqb j i ≡ d
          → (first_from test n (suc i) ≡ none → (j : ℕ) → suc i ≤ j → j < suc i + n → test j ≡ false) → test j ≡ false
      by true e h d f ih = absurd (none-ne-some i (sym h))
      by false e h true f ih = subst (λ (m : ℕ). test m ≡ false) (sym (eqb-true j i f)) e
      by false e h false f ih = let z = eqb-false j i f in ih h j (omega arith) (omega arith)

-- two tests that agree find the same
pub first-same : (f g : ℕ → Bool) (n i : ℕ) → ((j : ℕ) → i ≤ j → j < i + n → f j ≡ g j) → first_from f n i ≡ first_from g n i
unfolding first_from
first-same f g zero i h = refl
first-same f g (suc n) i h = rw (h i (omega arith) (omega arith), first-same f g n (suc i) (λ j p q. h j (omega arith) (omega arith)))

-- ---- the test of a mark, as code makes it
module _ (t : List ℕ) {r id : ℕ} (e : r ≡ id) where
  pub mark-bare : get_or t r 0 ≡ 0 → free_in t id ≡ true
  mark-bare h = eq-eqb (get_or t id 0) 0 (rw e at h)

  pub mark-there : (get_or t r 0 ≡ 0 → ⊥) → free_in t id ≡ false
  mark-there h = ne_eqb (get_or t id 0) 0 (rw e at h)

-- The greatest bytes of 4,096 pairs, found in columns.
use Prim.Native.Nat.{ℕ, ◌+◌, ◌*◌, ◌%◌, ◌<◌, ◌≤◌}
use mathlib.Core.Path.{◌≡◌, refl, sym, subst, ◌∙◌}
use mathlib.Core.List.{List}
use mathlib.Core.Bool.{Bool, true, false}
use native.Mathlib.Nat.{add-zero}
use native.Mathlib.Omega.{arith}
use lib.Dec.{eqb}
use lib.ListN.{length, get_or, set, length-set}
use lib.Seq.{get_or-set_same, get_or-set_other}
use borrow.Author.Tests.{eqb-true, eqb-false}
use Rattle.mapblock.specs.Bounds.{NoneAbove, Raised, Reached, IdsWithin}
use Rattle.mapblock.proofs.GoodRows.{either}

-- what holds below n and of n holds below n + 1
pub one_more : (P : ℕ → Type 0) (n : ℕ) → ((k : ℕ) → k < n → P k) → P n → (k : ℕ) → k < n + 1 → P k
one_more P n below here k h =
    either n k
    (λ l.
    let e : n ≡ k = omega arith in
    rw e at here)
    (below k)

-- a column that is set to no less is above what it was, and the others stay
set-above : (l : List ℕ) (j : ℕ) (x : ℕ) → j < length l → get_or l j 0 ≤ x → (k : ℕ) → get_or l k 0 ≤ get_or (set l j x) k 0
set-above l j x h g k = go (eqb j k) refl
  where
    go : (b : Bool) → eqb j k ≡ b → get_or l k 0 ≤ get_or (set l j x) k 0
    go true e = subst (λ (i : ℕ). get_or l i 0 ≤ get_or (set l j x) i 0) (eqb-true j k e) (omega (arith, get_or-set_same l j x 0 h))
    go false e = omega (arith, get_or-set_other l j k x 0 (λ w. eqb-false j k e (sym w)))

module _ (s : List ℕ) (at : ℕ) where
  pub raised-none : {old : List ℕ} → length old ≡ 128 → Raised s at 0 old old
  raised-none h = record { long = h; above = λ j. omega arith; reaches = λ j k. absurd (omega arith) }

  pub raised-one : {old new : List ℕ} (n x : ℕ) → Raised s at n old new → n < 128 → get_or new n 0 ≤ x → get_or s (at + n) 0 ≤ x → Raised s at (n + 1) old (set new n x)
  raised-one {old} {new} n x r h up reach = record {
    long = length-set new n x ∙ r.long;
    above = λ j. omega (arith, r.above j, higher j);
    reaches = one_more (λ j. get_or s (at + j) 0 ≤ get_or (set new n x) j 0) n (λ j k. omega (arith, r.reaches j k, higher j)) (omega (arith, get_or-set_same new n x 0 inside));
  }
    where
      inside : n < length new
      inside = omega (arith, r.long)

      higher : (j : ℕ) → get_or new j 0 ≤ get_or (set new n x) j 0
      higher = set-above new n x inside up

  pub reached-row : {old new : List ℕ} → at % 128 ≡ 0 → Reached s at old → Raised s at 128 old new → Reached s (at + 128) new
  reached-row {old} {new} e o r = record { long = r.long; reaches = λ i h. either at i (λ k. here i k h) (λ k. omega (arith, o.reaches i k, r.above (i % 128))) }
    where
      here : (i : ℕ) → at ≤ i → i < at + 128 → get_or s i 0 ≤ get_or new (i % 128) 0
      here i k h =
          let j : at + i % 128 ≡ i = omega arith in
          rw j at (r.reaches (i % 128) (omega arith))

pub reached-none : (s : List ℕ) {columns : List ℕ} → length columns ≡ 128 → Reached s 0 columns
reached-none s h = record { long = h; reaches = λ i k. absurd (omega arith) }

-- what no column is above, no pair of bytes is above
pairs-within : (s columns : List ℕ) (first most : ℕ) → first < 2 → Reached s 8192 columns → NoneAbove 64 columns first most → NoneAbove 4096 s first most
pairs-within s columns first most f r n i h =
    let j : (2 * i + first) % 128 ≡ 2 * (i % 64) + first = omega arith in
    omega (arith, rw j at (r.reaches (2 * i + first) (omega arith)), n (i % 64) (omega arith))

pub ids-within : (s columns : List ℕ) (high low : ℕ) → Reached s 8192 columns → NoneAbove 64 columns 0 high → NoneAbove 64 columns 1 low → IdsWithin s (high * 256 + low)
ids-within s columns high low r h l i k =
    omega (arith, rw (add-zero (2 * i)) at (pairs-within s columns 0 high (omega arith) r h i k), pairs-within s columns 1 low (omega arith) r l i k)

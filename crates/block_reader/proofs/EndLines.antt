-- An inventory's end: the walk byte by byte finds the first end line.
use Prim.Native.Nat.{ℕ, zero, suc, ◌+◌, ◌<◌}
use mathlib.Core.Path.{◌≡◌, refl, ap, sym, ◌∙◌}
use mathlib.Core.Bool.{Bool, true, false, cond, ◌&&◌}
use mathlib.Core.Option.{some, none-ne-some}
use mathlib.Core.List.{List, [], ◌∷◌}
use native.Mathlib.Omega.{arith}
use lib.Dec.{eqb}
use lib.ListN.{get_or, drop}
use Rattle.wire.specs.Choice.{no_true}
use Rattle.wire.proofs.Tests.{and_yes}
use Rattle.wire.specs.Marks.{starts}
use Rattle.mapblock.specs.Inventory.{end_line, after, through, after-some}
use Rattle.block_reader.specs.Theorems.{end_line_at, FirstEndLine}

-- the same of bytes that begin a line where the flag is true
abbrev start_at : Bool → List ℕ → ℕ → Bool
start_at b l zero = b
start_at b l (suc i) = eqb (get_or l i 0) 10

abbrev end_at : Bool → List ℕ → ℕ → Bool
end_at b l i = start_at b l i && starts end_line (drop i l)

abbrev First : Bool → List ℕ → ℕ → Type 0
First b l n = (k : ℕ) × (n ≡ k + 13) × (end_at b l k ≡ true) × ((i : ℕ) → i < k → end_at b l i ≡ false)

-- a byte further on
behind : (b : Bool) (x : ℕ) (l : List ℕ) (i : ℕ) → end_at b (x ∷ l) (suc i) ≡ end_at (eqb x 10) l i
behind b x l zero = refl
behind b x l (suc i) = refl

test-is : (b c : Bool) → cond b c false ≡ (b && c)
test-is true c = refl
test-is false c = refl

no_range : (b : Bool) (k : ℕ) → end_at b [] k ≡ true → ⊥
no_range b zero h = no_true (and_yes b false h).1
no_range b (suc k) h = no_true (and_yes (eqb 0 10) false h).1

found : (b : Bool) (l : List ℕ) (n : ℕ) → through b l ≡ some n → First b l n
found b [] n h = absurd (none-ne-some n h)
found b (x ∷ l) n h = go (cond b (starts end_line (x ∷ l)) false) refl h (λ m. found (eqb x 10) l m)
  where
    go : (t : Bool) → cond b (starts end_line (x ∷ l)) false ≡ t → cond t (some 13) (after (through (eqb x 10) l)) ≡ some n
        → ((m : ℕ) → through (eqb x 10) l ≡ some m → First (eqb x 10) l m) → First b (x ∷ l) n
    go true e g ih = (0, (cc), sym (test-is b (starts end_line (x ∷ l))) ∙ e, λ i k. absurd (omega arith))
    go false e g ih =
        let y = after-some (through (eqb x 10) l) n g in
        let z = ih y.0 y.1 in
        (suc z.0, omega (arith, y.2, z.1), behind b x l z.0 ∙ z.2, before z.0 z.3)
      where
        before : (k : ℕ) → ((i : ℕ) → i < k → end_at (eqb x 10) l i ≡ false) → (i : ℕ) → i < suc k → end_at b (x ∷ l) i ≡ false
        before k f zero h = sym (test-is b (starts end_line (x ∷ l))) ∙ e
        before k f (suc i) h = behind b x l i ∙ f i (omega arith)

back : (b : Bool) (l : List ℕ) (k : ℕ) → end_at b l k ≡ true → ((i : ℕ) → i < k → end_at b l i ≡ false) → through b l ≡ some (k + 13)
back b [] k h f = absurd (no_range b k h)
back b (x ∷ l) zero h f = rw (test-is b (starts end_line (x ∷ l)) ∙ h)
back b (x ∷ l) (suc k) h f =
    let t : cond b (starts end_line (x ∷ l)) false ≡ false = test-is b (starts end_line (x ∷ l)) ∙ f 0 (omega arith) in
    let r = back (eqb x 10) l k (sym (behind b x l k) ∙ h) (λ i j. sym (behind b x l i) ∙ f (suc i) (omega arith)) in
    let far : suc (k + 13) ≡ suc k + 13 = omega arith in
    rw (t, r) (ap some far)

pub first-end-line : FirstEndLine
first-end-line l n = (λ h. plain (found true l n h), λ h. back true l h.0 (flagged l h.0 ∙ h.2) (λ i j. flagged l i ∙ h.3 i j) ∙ ap some (sym h.1))
  where
    flagged : (l : List ℕ) (i : ℕ) → end_at true l i ≡ end_line_at l i
    flagged l zero = refl
    flagged l (suc i) = refl

    plain : First true l n → (k : ℕ) × (n ≡ k + 13) × (end_line_at l k ≡ true) × ((i : ℕ) → i < k → end_line_at l i ≡ false)
    plain (k, e, h, f) = (k, e, sym (flagged l k) ∙ h, λ i j. sym (flagged l i) ∙ f i j)

-- The decimal digits of a number, as std shows them.
use Prim.Native.Nat.{ℕ, zero, suc, ◌*◌, ◌/◌, ◌%◌, ◌^◌, ◌<◌, ◌≤◌}
use mathlib.Core.Path.{◌≡◌, refl, ◌∙◌}
use mathlib.Core.Bool.{Bool, true, false, cond}
use mathlib.Core.List.{List, [], ◌∷◌, ◌++◌, append_assoc, append-nil}
use native.Mathlib.Nat.{pow-suc, mod-lt}
use native.Mathlib.Omega.{arith}
use lib.Dec.{ltb, lit<}
use lib.ListN.{length, length-append}
use borrow.Author.Tests.{ltb-true, ltb-false, lt-ltb, eq-eqb, ne_eqb}
use Rattle.std.specs.Fmt.{digits_onto, digit_glyph, digits}
use Rattle.report.specs.Text.{digit, decimal_by, decimal}

-- ---- what std shows
glyph-digit : (n : ℕ) → digit_glyph false (n % 10) ≡ digit (n % 10)
glyph-digit n = rw (lt-ltb (n % 10) 10 (mod-lt n (lit< tt)))

-- std has room for j digits, and the number has at most suc k
shown-by : (k j n : ℕ) (acc : List ℕ) → k < j → n < 10 ^ suc k → digits_onto j 10 false n acc ≡ decimal_by k n ++ acc
unfolding decimal_by
shown-by zero zero n acc g h = absurd (omega (arith, g))
shown-by zero (suc j) n acc g h =
    let e : n / 10 ≡ 0 = omega arith in
    rw (eq-eqb (n / 10) 0 e, glyph-digit n)
shown-by (suc k) zero n acc g h = absurd (omega (arith, g))
shown-by (suc k) (suc j) n acc g h =
    let p : n < 10 ^ suc k * 10 = rw pow-suc at h in
    go (ltb n 10) refl (shown-by k j (n / 10) (digit (n % 10) ∷ acc) (omega arith) (omega arith))
  where
    go : (b : Bool) → ltb n 10 ≡ b → digits_onto j 10 false (n / 10) (digit (n % 10) ∷ acc) ≡ decimal_by k (n / 10) ++ (digit (n % 10) ∷ acc)
        → digits_onto (suc j) 10 false n acc ≡ cond b (digit n ∷ []) (decimal_by k (n / 10) ++ (digit (n % 10) ∷ [])) ++ acc
    go true e ih =
        let below : n < 10 = ltb-true n 10 e in
        let none : n / 10 ≡ 0 = omega arith in
        let same : n % 10 ≡ n = omega arith in
        rw (eq-eqb (n / 10) 0 none, glyph-digit n, same)
    go false e ih =
        let above : 10 ≤ n = ltb-false n 10 e in
        rw (ne_eqb (n / 10) 0 (λ z. omega (arith, above, z)), glyph-digit n, append_assoc) ih

pub shown : (n : ℕ) → n < 2 ^ 64 → digits 10 false n ≡ decimal n
unfolding decimal digits
shown n h = shown-by 19 64 n [] (lit< tt) (omega arith) ∙ append-nil (decimal_by 19 n)

-- ---- how many there are
length-by : (k n : ℕ) → length (decimal_by k n) ≤ suc k
unfolding decimal_by
length-by zero n = omega arith
length-by (suc k) n = go (ltb n 10) (length-by k (n / 10))
  where
    go : (b : Bool) → length (decimal_by k (n / 10)) ≤ suc k → length (cond b (digit n ∷ []) (decimal_by k (n / 10) ++ digit (n % 10) ∷ [])) ≤ suc (suc k)
    go true ih = omega arith
    go false ih = rw length-append (omega arith)

pub decimal-short : (n : ℕ) → length (decimal n) ≤ 20
unfolding decimal
decimal-short n = length-by 19 n

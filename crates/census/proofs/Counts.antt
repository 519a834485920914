-- Laws of counts of indices, and of sums over them.
use Rattle.std.proofs.Common.{◌≡◌, ℕ, zero, suc, ◌+◌, ◌<◌, ◌≤◌, Bool, true, false, cond, ◌&&◌, refl, ap, ◌∙◌, add-zero, add_assoc, add-suc, add-one, arith}
use Rattle.wire.specs.Choice.{bit}
use Rattle.census.specs.CountsById.{count_if}

pub count_if-zero : (p : ℕ → Bool) (a : ℕ) → count_if p a 0 ≡ 0
unfolding count_if
count_if-zero p a = refl

pub count_if-one : (p : ℕ → Bool) (a n : ℕ) → count_if p a (n + 1) ≡ count_if p a n + bit (p (a + n))
unfolding count_if
count_if-one p a n = rw (add-one n)

pub bit_le : (b : Bool) → bit b ≤ 1
bit_le true = omega arith
bit_le false = omega arith

pub count_if-le : (p : ℕ → Bool) (a n : ℕ) → count_if p a n ≤ n
unfolding count_if
count_if-le p a zero = omega arith
count_if-le p a (suc n) = omega (arith, count_if-le p a n, bit_le (p (a + n)))

pub count_if-add : (p : ℕ → Bool) (a n m : ℕ) → count_if p a (n + m) ≡ count_if p a n + count_if p (a + n) m
unfolding count_if
count_if-add p a n zero = rw (add-zero n) (omega arith)
count_if-add p a n (suc m) = rw (add-suc n m) (omega (arith, count_if-add p a n m, ap (λ (i : ℕ). bit (p i)) (add_assoc a n m)))

pub count_if-same : (p q : ℕ → Bool) (a n : ℕ) → ((i : ℕ) → a ≤ i → i < a + n → p i ≡ q i) → count_if p a n ≡ count_if q a n
unfolding count_if
count_if-same p q a zero e = refl
count_if-same p q a (suc n) e = omega (arith, count_if-same p q a n (λ i h k. e i h (omega arith)), ap bit (e (a + n) (omega arith) (omega arith)))

pub count_if-none : (p : ℕ → Bool) (a n : ℕ) → ((i : ℕ) → a ≤ i → i < a + n → p i ≡ false) → count_if p a n ≡ 0
unfolding count_if
count_if-none p a zero e = refl
count_if-none p a (suc n) e = omega (arith, count_if-none p a n (λ i h k. e i h (omega arith)), ap bit (e (a + n) (omega arith) (omega arith)))

pub count_if-all : (p : ℕ → Bool) (a n : ℕ) → ((i : ℕ) → a ≤ i → i < a + n → p i ≡ true) → count_if p a n ≡ n
unfolding count_if
count_if-all p a zero e = refl
count_if-all p a (suc n) e = omega (arith, count_if-all p a n (λ i h k. e i h (omega arith)), ap bit (e (a + n) (omega arith) (omega arith)))

-- how many pass a test, from the first on
pub count_if-front : (p : ℕ → Bool) (i n : ℕ) → count_if p i (suc n) ≡ bit (p i) + count_if p (suc i) n
count_if-front p i n =
    let one : suc n ≡ 1 + n = omega arith in
    let next : i + 1 ≡ suc i = omega arith in
    ap (count_if p i) one ∙ count_if-add p i 1 n ∙ rw (next, count_if-first) refl
  where
    count_if-first : count_if p i 1 ≡ bit (p i)
    count_if-first = count_if-one p i 0 ∙ omega (arith, count_if-zero p i, ap (λ (j : ℕ). bit (p j)) (add-zero i))

-- ---- sums
-- the sum of f i over those i with a ≤ i < a + n that pass the test
unfoldable pub sum_if : (ℕ → Bool) → (ℕ → ℕ) → ℕ → ℕ → ℕ
sum_if p f a zero = 0
sum_if p f a (suc n) = sum_if p f a n + cond (p (a + n)) (f (a + n)) 0

-- of ones and zeros it counts
pub sum_if-bit : (p q : ℕ → Bool) (a n : ℕ) → sum_if p (λ i. bit (q i)) a n ≡ count_if (λ i. p i && q i) a n
unfolding sum_if count_if
sum_if-bit p q a zero = refl
sum_if-bit p q a (suc n) = omega (arith, sum_if-bit p q a n, one (p (a + n)))
  where
    one : (b : Bool) → cond b (bit (q (a + n))) 0 ≡ bit (b && q (a + n))
    one true = refl
    one false = refl

-- from the first on
pub sum_if-front : (p : ℕ → Bool) (f : ℕ → ℕ) (i n : ℕ) → sum_if p f i (suc n) ≡ cond (p i) (f i) 0 + sum_if p f (suc i) n
unfolding sum_if
sum_if-front p f i zero = omega (arith, ap (λ (j : ℕ). cond (p j) (f j) 0) (add-zero i))
sum_if-front p f i (suc n) =
    let next : i + suc n ≡ suc i + n = omega arith in
    omega (arith, sum_if-front p f i n, ap (λ (j : ℕ). cond (p j) (f j) 0) next)

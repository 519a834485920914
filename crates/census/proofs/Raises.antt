-- The counters after a run of indices.
use Rattle.std.proofs.Common.{◌≡◌, length, ℕ, zero, suc, ◌+◌, ◌-◌, ◌%◌, ◌<◌, ◌≤◌, Bool, true, false, eqb, List, get_or, set, sym, refl, ap, ◌∙◌, subst, arith, length-set, get_or-set_other, get_or-set_same, eq-eqb, ne_eqb, eqb-true}
use borrow.Author.Tests.{eqb-false}
use Rattle.census.specs.CountsById.{count_if, Raised}
use Rattle.census.specs.Counters.{is_at}
use Rattle.census.proofs.Counts.{count_if-zero, count_if-add, count_if-same, count_if-none, count_if-all}

-- 65,536 counters that fit
pub record Table (t : List ℕ) : Type 0 where
  pub size : length t ≡ 65536
  pub fits : (k : ℕ) → k < 65536 → get_or t k 0 < 65536

pub table : {t : List ℕ} → length t ≡ 65536 → ((k : ℕ) → get_or t k 0 < 65536) → Table t
table size fits = record { size = size; fits = λ k _. fits k }

raised-table : {p : ℕ → ℕ → Bool} {a n : ℕ} {old new : List ℕ} → Table old → Raised p a n old new → Table new
raised-table t r = record { size = r.long ∙ t.size; fits = λ k h. omega (arith, r.each k h) }

pub raised-none : (p : ℕ → ℕ → Bool) (a n : ℕ) {old : List ℕ} → Table old → n ≡ 0 → Raised p a n old old
raised-none p a n t e = record { long = refl; each = λ k h. omega (arith, ap (count_if (p k) a) e, count_if-zero (p k) a, t.fits k h) }

-- indices that all have one id: its counter goes up by as many
module _ (ids : ℕ → ℕ) (a n id : ℕ) {old : List ℕ} (t : Table old) (h : id < 65536) (same : (i : ℕ) → a ≤ i → i < a + n → ids i ≡ id) where
  pub raised-run : {x : ℕ} → x ≡ (get_or old id 0 + n) % 65536 → Raised (is_at ids) a n old (set old id x)
  raised-run {x} ex = record { long = length-set old id x; each = λ k g. go k g (eqb id k) refl }
    where
      own : get_or (set old id x) id 0 ≡ (get_or old id 0 + count_if (is_at ids id) a n) % 65536
      own = omega (arith, get_or-set_same old id x 0 (omega (arith, t.size)), ex, count_if-all (is_at ids id) a n (λ i y z. eq-eqb (ids i) id (same i y z)))

      go : (k : ℕ) → k < 65536 → (b : Bool) → eqb id k ≡ b → get_or (set old id x) k 0 ≡ (get_or old k 0 + count_if (is_at ids k) a n) % 65536
      go k g true q = subst (λ (j : ℕ). get_or (set old id x) j 0 ≡ (get_or old j 0 + count_if (is_at ids j) a n) % 65536) (eqb-true id k q) own
      go k g false q =
          omega (arith, get_or-set_other old id k x 0 (λ w. eqb-false id k q (sym w)), t.fits k g, count_if-none (is_at ids k) a n (λ i y z. ne_eqb (ids i) k (λ e. eqb-false id k q (sym (same i y z) ∙ e))))

-- indices that no test passes may be passed over
module _ (p : ℕ → ℕ → Bool) (a n m : ℕ) {old new : List ℕ} where
  pub raised-skip : Raised p a n old new → n ≤ m → ((k i : ℕ) → a + n ≤ i → i < a + m → p k i ≡ false) → Raised p a m old new
  raised-skip c h f = record { long = c.long; each = λ k g. c.each k g ∙ ap (λ (x : ℕ). (get_or old k 0 + x) % 65536) (sym (rest k)) }
    where
      e : m ≡ n + (m - n)
      e = omega arith

      rest : (k : ℕ) → count_if (p k) a m ≡ count_if (p k) a n
      rest k = ap (count_if (p k) a) e ∙ count_if-add (p k) a n (m - n) ∙ omega (arith, count_if-none (p k) (a + n) (m - n) (λ i x y. f k i (omega arith) (omega arith)))

-- another test, which agrees on the indices counted
pub raised-as : (p q : ℕ → ℕ → Bool) (a n : ℕ) {old new : List ℕ} → Raised q a n old new → ((k i : ℕ) → a ≤ i → i < a + n → p k i ≡ q k i) → Raised p a n old new
raised-as p q a n {old} c f = record { long = c.long; each = λ k g. c.each k g ∙ ap (λ (x : ℕ). (get_or old k 0 + x) % 65536) (sym (count_if-same (p k) (q k) a n (λ i x y. f k i x y))) }

-- the run that follows
pub raised-on : (p : ℕ → ℕ → Bool) (a n s m b : ℕ) {old mid new : List ℕ} → Raised p a n old mid → Raised p s m mid new → s ≡ a + n → b ≡ n + m → Raised p a b old new
raised-on p a n s m b c d es e = record { long = d.long ∙ c.long; each = λ k g. omega (arith, c.each k g, d.each k g, run k) }
  where
    run : (k : ℕ) → count_if (p k) a b ≡ count_if (p k) a n + count_if (p k) s m
    run k = ap (count_if (p k) a) e ∙ count_if-add (p k) a n m ∙ omega (arith, ap (λ (x : ℕ). count_if (p k) x m) es)

-- one index more: the counter of its id goes up by one
pub raised-one : (ids : ℕ → ℕ) (a n : ℕ) {old new : List ℕ} → Table old → Raised (is_at ids) a n old new → (i m id : ℕ) {x : ℕ} → i ≡ a + n → m ≡ n + 1 → id ≡ ids i → id < 65536
    → x ≡ (get_or new id 0 + 1) % 65536 → Raised (is_at ids) a m old (set new id x)
raised-one ids a n t c i m id ei em e h ex =
    raised-on (is_at ids) a n i 1 m c (raised-run ids i 1 id (raised-table t c) h (λ j y z. let k : j ≡ i = omega arith in ap ids k ∙ sym e) ex) ei em

-- four neighbours, each of which has the id
pub four_same : (ids : ℕ → ℕ) (a id : ℕ) → ids a ≡ id → ids (a + 1) ≡ id → ids (a + 2) ≡ id → ids (a + 3) ≡ id → (i : ℕ) → a ≤ i → i < a + 4 → ids i ≡ id
four_same ids a id p q r s i h g = go (i - a) (omega arith) (omega arith)
  where
    go : (d : ℕ) → i ≡ a + d → d < 4 → ids i ≡ id
    go zero e l = let k : i ≡ a = omega arith in ap ids k ∙ p
    go (suc zero) e l = let k : i ≡ a + 1 = omega arith in ap ids k ∙ q
    go (suc (suc zero)) e l = let k : i ≡ a + 2 = omega arith in ap ids k ∙ r
    go (suc (suc (suc zero))) e l = let k : i ≡ a + 3 = omega arith in ap ids k ∙ s
    go (suc (suc (suc (suc d)))) e l = absurd (omega arith)

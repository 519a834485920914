-- Rows that are put together: their counts and their weight.
use Rattle.std.proofs.Common.{◌≡◌, ℕ, ◌+◌, ◌<◌, ◌≤◌, true, false, List, [], ◌∷◌, ◌++◌, sym, refl, zero-add, arith, le-leb, leb-true}
use borrow.Author.Tests.{lt-leb}
use Rattle.wire.proofs.Tests.{yes_and}
use Rattle.wire.specs.Order.{order, choose}
use Rattle.wire.proofs.TotalOrder.{order_trans}
use Rattle.std.specs.declared.cmp.Ordering.{Ordering}
use Rattle.std.specs.declared.cmp.Ordering.TheVariants.{Less, Equal, Greater}
use Rattle.tally.specs.Rows.{Row, Rows, joined, add_row, plus, count_in, Canonical}
use Rattle.tally.specs.Tally.{ones, one, limited, max_count}
use Rattle.tally.specs.LookedUp.{Below}
use Rattle.running_tally.specs.RunningTally.{count_limit}
use Rattle.census.specs.UsedNames.{total_count}
use Rattle.running_tally.specs.Passes.{has}

-- ---- counts
pub count-append : (A B : Rows ones) (n : List ℕ) → count_in ones (A ++ B) n ≡ count_in ones A n + count_in ones B n
count-append [] B n = sym (zero-add _)
count-append (r ∷ A) B n = omega (arith, count-append A B n)

pub count-below : (D : Rows ones) (n : List ℕ) → Below ones n D → count_in ones D n ≡ 0
count-below [] n h = refl
count-below (d ∷ D) n h = rw h.0 (omega (arith, count-below D n h.1))

pub below-weak : (n m : List ℕ) (D : Rows ones) → order n m ≡ Less → Below ones n D → Below ones m D
below-weak n m [] e h = tt
below-weak n m (d ∷ D) e h = (order_trans d.name n m h.0 e, below-weak n m D e h.1)

-- ---- whether a name has a row
module _ (X : Rows ones) (n : List ℕ) where
  pub has_some : 1 ≤ count_in ones X n → has X n ≡ true
  has_some h = le-leb 1 (count_in ones X n) h

  pub some-has : has X n ≡ true → 1 ≤ count_in ones X n
  some-has h = leb-true 1 (count_in ones X n) h

  pub has-none : count_in ones X n ≡ 0 → has X n ≡ false
  has-none h = lt-leb 1 (count_in ones X n) (omega arith)

-- ---- the rows behind others
pub canonical-behind : (D L : Rows ones) → Canonical ones (D ++ L) → Canonical ones L
canonical-behind [] L h = h
canonical-behind (d ∷ D) L h = canonical-behind D L h.4

-- ---- weight
pub total_count-append : (A B : Rows ones) → total_count (A ++ B) ≡ total_count A + total_count B
total_count-append [] B = sym (zero-add _)
total_count-append (r ∷ A) B = omega (arith, total_count-append A B)

pub total_count-add : (g : Row ℕ) (X : Rows ones) → total_count (add_row ones g X) ≡ g.count + total_count X
total_count-add g [] = refl
total_count-add g (s ∷ l) = go (order g.name s.name) (total_count-add g l)
  where
    go : (w : Ordering) → total_count (add_row ones g l) ≡ g.count + total_count l
        → total_count (choose w (g ∷ s ∷ l) (joined ones g s ∷ l) (s ∷ add_row ones g l)) ≡ g.count + (s.count + total_count l)
    go Less ih = refl
    go Equal ih = omega arith
    go Greater ih = omega arith

pub total_count-plus : (a b : Rows ones) → total_count (plus ones a b) ≡ total_count a + total_count b
total_count-plus [] b = sym (zero-add _)
total_count-plus (r ∷ a) b = omega (arith, total_count-add r (plus ones a b), total_count-plus a b)

pub total_fits-limited : (L : Rows ones) → total_count L < count_limit → limited one L ≡ true
total_fits-limited [] h = refl
total_fits-limited (r ∷ l) h = yes_and (le-leb r.count max_count (omega arith)) (total_fits-limited l (omega arith))

-- From counters by content id to sums by name, and to counts by name: two ids may share a name.
use Rattle.std.proofs.Common.{◌≡◌, ℕ, zero, suc, ◌+◌, ◌*◌, ◌<◌, ◌≤◌, Bool, true, false, cond, ◌&&◌, eqb, ◌⊎◌, List, [], ◌∷◌, sym, refl, ap, ◌∙◌, inl, inr, zero-add, mul-add, arith, ne_eqb, eqb-true}
use borrow.Author.Tests.{eqb-false}
use Rattle.wire.specs.Order.{order, choose}
use Rattle.wire.specs.Choice.{bit}
use Rattle.std.specs.declared.cmp.Ordering.{Ordering}
use Rattle.std.specs.declared.cmp.Ordering.TheVariants.{Less, Equal, Greater}
use Rattle.mapblock.specs.Data.{NameRow}
use Rattle.mapblock.specs.Valid.{Has, Distinct}
use Rattle.block_reader.specs.Questions.{name_of}
use Rattle.tally.specs.Rows.{count_in, is_named}
use Rattle.tally.specs.Tally.{ones}
use Rattle.census.specs.UsedNames.{total_count}
use Rattle.census.specs.CountsById.{count_if, count_by_id, row_id, counted_by}
use Rattle.census.proofs.Counts.{count_if-le, sum_if, sum_if-bit}

-- the sum of f over the ids of rows, each as many times as its row weighs
unfoldable pub over : (NameRow → ℕ) → (ℕ → ℕ) → List NameRow → ℕ
over w f [] = 0
over w f (r ∷ l) = w r * f r.id + over w f l

-- a row that bears a name weighs one, and no other weighs anything; by another function of names, a row weighs what its name does
abbrev naming : List ℕ → NameRow → ℕ
naming n r = bit (is_named n r.name)

abbrev pub by_name : (List ℕ → ℕ) → NameRow → ℕ
by_name v r = v r.name

count-over : (f : ℕ → ℕ) (l : List NameRow) (n : List ℕ) → count_in ones (counted_by f l) n ≡ over (naming n) f l
unfolding over
count-over f [] n = refl
count-over f (r ∷ l) n = go (order r.name n) (count-over f l n)
  where
    go : (o : Ordering) → count_in ones (counted_by f l) n ≡ over (naming n) f l
        → choose o 0 (f r.id) 0 + count_in ones (counted_by f l) n ≡ bit (choose o false true false) * f r.id + over (naming n) f l
    go Less e = omega arith
    go Equal e = omega arith
    go Greater e = omega arith

total_count-over : (f : ℕ → ℕ) (l : List NameRow) → total_count (counted_by f l) ≡ over (λ r. 1) f l
unfolding over
total_count-over f [] = refl
total_count-over f (r ∷ l) = omega (arith, total_count-over f l)

-- f and g say the same of the rows' ids
abbrev pub SameAt : (ℕ → ℕ) → (ℕ → ℕ) → List NameRow → Type 0
SameAt f g [] = Unit {0}
SameAt f g (r ∷ l) = (f r.id ≡ g r.id) × SameAt f g l

pub over-same : (w : NameRow → ℕ) (f g : ℕ → ℕ) (l : List NameRow) → SameAt f g l → over w f l ≡ over w g l
unfolding over
over-same w f g [] h = refl
over-same w f g (r ∷ l) h = rw (h.0, over-same w f g l h.1)

module _ (w : NameRow → ℕ) where
  over_zero : (l : List NameRow) → over w (λ k. 0) l ≡ 0
  unfolding over
  over_zero [] = refl
  over_zero (r ∷ l) = omega (arith, over_zero l)

  over_add : (f g : ℕ → ℕ) (l : List NameRow) → over w (λ k. f k + g k) l ≡ over w f l + over w g l
  unfolding over
  over_add f g [] = refl
  over_add f g (r ∷ l) = rw (mul-add (w r) (f r.id) (g r.id), over_add f g l) (omega arith)

  module _ (k : ℕ) where
    -- one at the id k alone
    abbrev spike : ℕ → ℕ
    spike i = bit (eqb k i)

    away : (c i : ℕ) → eqb k i ≡ false → c * spike i ≡ 0
    away c i e = rw e (omega arith)

    here : (c i : ℕ) → eqb k i ≡ true → c * spike i ≡ c
    here c i e = rw e (omega arith)

    over_none : (l : List NameRow) → (Has row_id k l → ⊥) → over w spike l ≡ 0
    unfolding over
    over_none [] h = refl
    over_none (r ∷ l) h = rw (away (w r) r.id (ne_eqb k r.id (λ e. h (inl (sym e)))), over_none l (λ x. h (inr x)))

    over-here : (r : NameRow) (l : List NameRow) → (Has row_id r.id l → ⊥) → eqb k r.id ≡ true → over w spike (r ∷ l) ≡ w r
    unfolding over
    over-here r l h e = rw (here (w r) r.id e, over_none l (rw (eqb-true k r.id e) h)) (omega arith)

    over-there : (r : NameRow) (l : List NameRow) → eqb k r.id ≡ false → over w spike (r ∷ l) ≡ over w spike l
    unfolding over
    over-there r l e = rw (away (w r) r.id e) (omega arith)

-- of distinct ids one at most is k
over-one : (k : ℕ) (l : List NameRow) → Distinct row_id l → over (λ r. 1) (λ i. bit (eqb k i)) l ≤ 1
unfolding over
over-one k [] d = omega arith
over-one k (r ∷ l) d = go (eqb k r.id) refl (over-one k l d.1)
  where
    go : (b : Bool) → eqb k r.id ≡ b → over (λ r. 1) (λ i. bit (eqb k i)) l ≤ 1 → over (λ r. 1) (λ i. bit (eqb k i)) (r ∷ l) ≤ 1
    go true e h = omega (arith, over-here (λ r. 1) k r l d.0 e)
    go false e h = omega (arith, over-there (λ r. 1) k r l e)

-- a mapped id gives what its own name weighs
over-own : (v : List ℕ → ℕ) (k : ℕ) (l : List NameRow) → Distinct row_id l → Has row_id k l → over (by_name v) (λ i. bit (eqb k i)) l ≡ v (name_of l k)
over-own v k [] d h = elim h [ ]
over-own v k (r ∷ l) d h = go (eqb k r.id) refl h (over-own v k l d.1)
  where
    go : (b : Bool) → eqb k r.id ≡ b → (r.id ≡ k) ⊎ Has row_id k l → (Has row_id k l → over (by_name v) (λ i. bit (eqb k i)) l ≡ v (name_of l k))
        → over (by_name v) (λ i. bit (eqb k i)) (r ∷ l) ≡ v (cond b r.name (name_of l k))
    go true e x ih = over-here (by_name v) k r l d.0 e
    go false e (inl x) ih = absurd (eqb-false k r.id e (sym x))
    go false e (inr x) ih = over-there (by_name v) k r l e ∙ ih x

module _ (q : ℕ → Bool) (ids : ℕ → ℕ) (l : List NameRow) (d : Distinct row_id l) where
  -- of the first c indices
  abbrev first : ℕ → ℕ → ℕ
  first c k = count_if (λ i. q i && eqb (ids i) k) 0 c

  -- one index more gives as much as its id does, where it passes the test
  more : (w : NameRow → ℕ) (c : ℕ) → over w (first (suc c)) l ≡ over w (first c) l + over w (λ k. bit (q c && eqb (ids c) k)) l
  unfolding count_if
  more w c = ap (λ (j : ℕ). over w (λ k. first c k + bit (q j && eqb (ids j) k)) l) (zero-add c) ∙ over_add w (first c) (λ k. bit (q c && eqb (ids c) k)) l

  weighed : (v : List ℕ → ℕ) (c : ℕ) → ((i : ℕ) → i < c → Has row_id (ids i) l) → over (by_name v) (first c) l ≡ sum_if q (λ i. v (name_of l (ids i))) 0 c
  unfolding count_if sum_if
  weighed v zero h = over_zero (by_name v) l
  weighed v (suc c) h = more (by_name v) c ∙ omega (arith, weighed v c (λ i g. h i (omega arith)), one (q c), ap (λ (j : ℕ). cond (q j) (v (name_of l (ids j))) 0) (zero-add c))
    where
      one : (b : Bool) → over (by_name v) (λ k. bit (b && eqb (ids c) k)) l ≡ cond b (v (name_of l (ids c))) 0
      one true = over-own v (ids c) l d (h c (omega arith))
      one false = over_zero (by_name v) l

  bound : (c : ℕ) → over (λ r. 1) (first c) l ≤ c
  unfolding count_if
  bound zero = omega (arith, over_zero (λ r. 1) l)
  bound (suc c) = omega (arith, more (λ r. 1) c, bound c, one (q c))
    where
      one : (b : Bool) → over (λ r. 1) (λ k. bit (b && eqb (ids c) k)) l ≤ 1
      one true = over-one (ids c) l d
      one false = omega (arith, over_zero (λ r. 1) l)

  -- counters by id, each weighed by the name of its id, are the nodes weighed by name
  pub by-weight : (v : List ℕ → ℕ) → ((i : ℕ) → i < 4096 → Has row_id (ids i) l) → over (by_name v) (count_by_id q ids) l ≡ sum_if q (λ i. v (name_of l (ids i))) 0 4096
  by-weight v h = weighed v 4096 h

  -- so counters by id, added up by name, are the count by name: a node weighs one or nothing
  pub by_name_lem : (n : List ℕ) → ((i : ℕ) → i < 4096 → Has row_id (ids i) l) → count_in ones (counted_by (count_by_id q ids) l) n ≡ count_if (λ i. q i && is_named n (name_of l (ids i))) 0 4096
  by_name_lem n h = count-over (count_by_id q ids) l n ∙ weighed (λ m. bit (is_named n m)) 4096 h ∙ sum_if-bit q (λ i. is_named n (name_of l (ids i))) 0 4096

  -- all of them together are a block's nodes at most
  pub counted-bound : total_count (counted_by (count_by_id q ids) l) ≤ 4096
  counted-bound = omega (arith, total_count-over (count_by_id q ids) l, bound 4096)

-- and so is each
pub by-id-bound : (q : ℕ → Bool) (ids : ℕ → ℕ) (k : ℕ) → count_by_id q ids k ≤ 4096
by-id-bound q ids k = count_if-le (λ i. q i && eqb (ids i) k) 0 4096

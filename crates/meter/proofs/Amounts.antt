-- The tally of a list of nodes: its rows are as a tally has them, they count what the nodes count, and they keep the limits of rows and counts.
use Rattle.std.proofs.Common.{◌≡◌, ℕ, suc, ◌<◌, ◌≤◌, Bool, true, false, cond, List, [], ◌∷◌, ◌++◌, length, sym, refl, ap, ◌∙◌, arith}
use Rattle.wire.specs.Bytes.{Bytes}
use Rattle.wire.proofs.Tests.{yes_and}
use Rattle.wire.specs.Order.{order, choose}
use Rattle.wire.proofs.TotalOrder.{order_same}
use Rattle.std.specs.declared.cmp.Ordering.{Ordering}
use Rattle.std.specs.declared.cmp.Ordering.TheVariants.{Less, Equal, Greater}
use Rattle.tally.specs.Rows.{is_name, joined, add_row, plus, count_in, Canonical}
use Rattle.tally.specs.Tally.{TallyRow, limited}
use Rattle.tally.proofs.Canon.{count-plus, canonical-add, canonical-plus, determined, count_head, count-above, count_past}
use Rattle.meter.specs.Standing.{Node, filter_nodes}
use Rattle.meter.specs.Counting.{bears, bearing, Measure, MeasureRows, row_of, tally_of, amount_of}

-- ---- nodes that pass a test
module _ (test : Node → Bool) where
  pub filter_nodes-append : (l k : List Node) → filter_nodes test (l ++ k) ≡ filter_nodes test l ++ filter_nodes test k
  unfolding filter_nodes
  filter_nodes-append [] k = refl
  filter_nodes-append (x ∷ l) k = go (test x) (filter_nodes-append l k)
    where
      go : (b : Bool) → filter_nodes test (l ++ k) ≡ filter_nodes test l ++ filter_nodes test k
          → cond b (x ∷ filter_nodes test (l ++ k)) (filter_nodes test (l ++ k)) ≡ cond b (x ∷ filter_nodes test l) (filter_nodes test l) ++ filter_nodes test k
      go true e = ap (λ (t : List Node). x ∷ t) e
      go false e = e

  pub filter_nodes-fewer : (l : List Node) → length (filter_nodes test l) ≤ length l
  unfolding filter_nodes
  filter_nodes-fewer [] = omega arith
  filter_nodes-fewer (x ∷ l) = go (test x) (filter_nodes-fewer l)
    where
      go : (b : Bool) → length (filter_nodes test l) ≤ length l → length (cond b (x ∷ filter_nodes test l) (filter_nodes test l)) ≤ suc (length l)
      go true h = omega arith
      go false h = omega arith

-- ---- nodes whose names may stand in a tally
abbrev pub Named : Node → Type 0
Named x = (is_name x.name ≡ true) × Bytes x.name

abbrev pub AllNamed : List Node → Type 0
AllNamed [] = Unit {0}
AllNamed (x ∷ l) = Named x × AllNamed l

pub named-filter_nodes : (test : Node → Bool) (l : List Node) → AllNamed l → AllNamed (filter_nodes test l)
unfolding filter_nodes
named-filter_nodes test [] h = tt
named-filter_nodes test (x ∷ l) h = go (test x) (named-filter_nodes test l h.1)
  where
    go : (b : Bool) → AllNamed (filter_nodes test l) → AllNamed (cond b (x ∷ filter_nodes test l) (filter_nodes test l))
    go true k = (h.0, k)
    go false k = k

pub named-append : (l k : List Node) → AllNamed l → AllNamed k → AllNamed (l ++ k)
named-append [] k h g = g
named-append (x ∷ l) k h g = (h.0, named-append l k h.1 g)

module _ (m : Measure) where
  -- ---- rows as a tally has them
  pub tally-canonical : (l : List Node) → AllNamed l → Canonical m.kind.counts (tally_of m l)
  unfolding tally_of
  tally-canonical [] h = tt
  tally-canonical (x ∷ l) h = canonical-add m.kind.counts (row_of m x) (tally_of m l) h.0.0 h.0.1 (m.stands x) (tally-canonical l h.1)

  -- ---- they count what the nodes of the name count
  -- a node's row and the rest, as a sum of rows
  first_count : (x : Node) (l : List Node) (n : List ℕ)
      → count_in m.kind.counts (tally_of m (x ∷ l)) n ≡ m.kind.counts.add (choose (order x.name n) m.kind.counts.none (m.of x) m.kind.counts.none) (count_in m.kind.counts (tally_of m l) n)
  unfolding tally_of
  first_count x l n =
      let S = m.kind.counts in
      let c = choose (order x.name n) S.none (m.of x) S.none in
      count-plus S (row_of m x ∷ []) (tally_of m l) n ∙ ap (λ (d : S.C). S.add d (count_in S (tally_of m l) n)) (S.add_comm c S.none ∙ S.add_none c)

  pub first-amount : (x : Node) (l : List Node) (n : List ℕ)
      → amount_of m n (x ∷ l) ≡ m.kind.counts.add (choose (order x.name n) m.kind.counts.none (m.of x) m.kind.counts.none) (amount_of m n l)
  unfolding filter_nodes
  first-amount x l n = go (order x.name n)
    where
      go : (o : Ordering) → m.total (cond (choose o false true false) (x ∷ bearing n l) (bearing n l)) ≡ m.kind.counts.add (choose o m.kind.counts.none (m.of x) m.kind.counts.none) (amount_of m n l)
      go Less = sym (m.kind.counts.add_none _)
      go Equal = m.total-more x (bearing n l)
      go Greater = sym (m.kind.counts.add_none _)

  no-count : (n : List ℕ) → count_in m.kind.counts (tally_of m []) n ≡ amount_of m n []
  unfolding tally_of filter_nodes
  no-count n = sym m.total-none

  pub count-tally : (l : List Node) (n : List ℕ) → count_in m.kind.counts (tally_of m l) n ≡ amount_of m n l
  count-tally [] n = no-count n
  count-tally (x ∷ l) n =
      let S = m.kind.counts in
      first_count x l n ∙ ap (S.add (choose (order x.name n) S.none (m.of x) S.none)) (count-tally l n) ∙ sym (first-amount x l n)

  -- ---- no count is above the limit
  limit-none : (c : m.kind.counts.C) → m.kind.limit c ≡ true → m.kind.limit m.kind.counts.none ≡ true
  limit-none c h = let S = m.kind.counts in m.kind.limit-part c S.none (rw (S.add_comm c S.none, S.add_none c) h)

  limited-by : (r : MeasureRows m) → Canonical m.kind.counts r → ((n : List ℕ) → m.kind.limit (count_in m.kind.counts r n) ≡ true) → limited m.kind r ≡ true
  limited-by [] c h = refl
  limited-by (x ∷ r) c h =
      let S = m.kind.counts in
      yes_and (rw (count_head S x r c.3) at (h x.name)) (limited-by r c.4 (λ n. rest n (order x.name n) refl))
    where
      rest : (n : List ℕ) (o : Ordering) → order x.name n ≡ o → m.kind.limit (count_in m.kind.counts r n) ≡ true
      rest n Less e = rw (count_past m.kind.counts x r n e refl) at (h n)
      rest n Greater e = rw (count_past m.kind.counts x r n e refl) at (h n)
      rest n Equal e =
          let S = m.kind.counts in
          let z : count_in S r n ≡ S.none = count-above S r n (rw (order_same x.name n e) at c.3) in
          rw z (limit-none _ (h n))

  pub tally-limited : (l : List Node) → AllNamed l → length l < 9223372036854775808 → limited m.kind (tally_of m l) ≡ true
  tally-limited l h f =
      limited-by (tally_of m l) (tally-canonical l h)
      (λ n. rw (count-tally l n) (m.total_fits (bearing n l) (omega (arith, filter_nodes-fewer (bears n) l))))

  -- ---- no more rows than nodes
  pub add-fewer : (r : TallyRow m.kind) (l : MeasureRows m) → length (add_row m.kind.counts r l) ≤ suc (length l)
  add-fewer r [] = omega arith
  add-fewer r (s ∷ l) = go (order r.name s.name) (add-fewer r l)
    where
      go : (o : Ordering) → length (add_row m.kind.counts r l) ≤ suc (length l)
          → length (choose o (r ∷ s ∷ l) (joined m.kind.counts r s ∷ l) (s ∷ add_row m.kind.counts r l)) ≤ suc (suc (length l))
      go Less h = omega arith
      go Equal h = omega arith
      go Greater h = omega arith

  pub tally-fewer : (l : List Node) → length (tally_of m l) ≤ length l
  unfolding tally_of
  tally-fewer [] = omega arith
  tally-fewer (x ∷ l) = omega (arith, add-fewer (row_of m x) (tally_of m l), tally-fewer l)

  -- ---- two lists of nodes
  pub amount-append : (n : List ℕ) (l k : List Node) → amount_of m n (l ++ k) ≡ m.kind.counts.add (amount_of m n l) (amount_of m n k)
  amount-append n l k = ap m.total (filter_nodes-append (bears n) l k) ∙ total-append (bearing n l) (bearing n k)
    where
      total-append : (a b : List Node) → m.total (a ++ b) ≡ m.kind.counts.add (m.total a) (m.total b)
      total-append [] b = sym (ap (λ (c : m.kind.counts.C). m.kind.counts.add c (m.total b)) m.total-none ∙ m.kind.counts.add_none _)
      total-append (x ∷ a) b =
          let S = m.kind.counts in
          m.total-more x (a ++ b) ∙ ap (S.add (m.of x)) (total-append a b) ∙ sym (S.add_assoc _ _ _) ∙ ap (λ (c : S.C). S.add c (m.total b)) (sym (m.total-more x a))

  pub tally-append : (l k : List Node) → AllNamed l → AllNamed k → tally_of m (l ++ k) ≡ plus m.kind.counts (tally_of m l) (tally_of m k)
  tally-append l k h g =
      let S = m.kind.counts in
      determined S (tally_of m (l ++ k)) (plus S (tally_of m l) (tally_of m k)) (tally-canonical (l ++ k) (named-append l k h g)) (canonical-plus S (tally_of m l) (tally_of m k) (tally-canonical l h) (tally-canonical k g))
      (λ n. count-tally (l ++ k) n ∙ amount-append n l k ∙ sym (count-plus S (tally_of m l) (tally_of m k) n ∙ rw (count-tally l n, count-tally k n)))

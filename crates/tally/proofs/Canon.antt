-- Sums of rows: they add name by name, they stay rows as a tally has them, and rows as a tally has them are determined by their counts.
-- So the order and the grouping of sums are free.
use Prim.Native.Nat.{ℕ}
use mathlib.Core.Path.{◌≡◌, refl, sym, ap, ◌∙◌}
use mathlib.Core.Bool.{true}
use mathlib.Core.List.{List, [], ◌∷◌}
use Rattle.wire.specs.Bytes.{Bytes}
use Rattle.wire.specs.Choice.{no_true}
use Rattle.wire.specs.Order.{order, choose}
use Rattle.wire.proofs.TotalOrder.{flip, order-refl, order_same, order_flip, order_trans}
use Rattle.std.specs.declared.cmp.Ordering.{Ordering}
use Rattle.std.specs.declared.cmp.Ordering.TheVariants.{Less, Equal, Greater}
use Rattle.tally.specs.Rows.{Counts, Row, Rows, is_name, joined, add_row, plus, count_in, Above, Canonical}
use Rattle.tally.specs.Theorems.{Sums}

module _ (S : Counts) where
  -- ---- the count of a name in a sum
  -- what one row counts of a name, by how its name stands to that
  abbrev counted : Ordering → S.C → S.C
  counted w c = choose w S.none c S.none

  counted-add : (w : Ordering) (c d : S.C) → counted w (S.add c d) ≡ S.add (counted w c) (counted w d)
  counted-add Less c d = sym (S.add_none S.none)
  counted-add Equal c d = refl
  counted-add Greater c d = sym (S.add_none S.none)

  -- the first two of three change places
  swap : (x y z : S.C) → S.add y (S.add x z) ≡ S.add x (S.add y z)
  swap x y z = sym (S.add_assoc y x z) ∙ ap (λ (t : S.C). S.add t z) (S.add_comm y x) ∙ S.add_assoc x y z

  pub count_add : (r : Row S.C) (l : Rows S) (n : List ℕ)
      → count_in S (add_row S r l) n ≡ S.add (counted (order r.name n) r.count) (count_in S l n)
  count_add r [] n = refl
  count_add r (s ∷ l) n = go (order r.name s.name) refl (count_add r l n)
    where
      go : (w : Ordering) → order r.name s.name ≡ w
          → count_in S (add_row S r l) n ≡ S.add (counted (order r.name n) r.count) (count_in S l n)
          → count_in S (choose w (r ∷ s ∷ l) (joined S r s ∷ l) (s ∷ add_row S r l)) n
          ≡ S.add (counted (order r.name n) r.count) (count_in S (s ∷ l) n)
      go Less e ih = refl
      go Equal e ih = rw (← order_same r.name s.name e, counted-add (order r.name n) r.count s.count) (S.add_assoc _ _ _)
      go Greater e ih = rw ih (swap _ _ _)

  pub count-plus : (a b : Rows S) (n : List ℕ) → count_in S (plus S a b) n ≡ S.add (count_in S a n) (count_in S b n)
  count-plus [] b n = sym (S.add_none _)
  count-plus (r ∷ a) b n = rw (count_add r (plus S a b) n, count-plus a b n) (sym (S.add_assoc _ _ _))

  -- ---- a sum keeps rows as a tally has them
  pub above-weak : (m n : List ℕ) (l : Rows S) → order m n ≡ Less → Above S n l → Above S m l
  above-weak m n [] e h = tt
  above-weak m n (r ∷ l) e h = (order_trans m n r.name e h.0, above-weak m n l e h.1)

  pub above-add : (n : List ℕ) (r : Row S.C) (l : Rows S) → order n r.name ≡ Less → Above S n l → Above S n (add_row S r l)
  above-add n r [] e h = (e, tt)
  above-add n r (s ∷ l) e h = go (order r.name s.name) (above-add n r l e h.1)
    where
      go : (w : Ordering) → Above S n (add_row S r l) → Above S n (choose w (r ∷ s ∷ l) (joined S r s ∷ l) (s ∷ add_row S r l))
      go Less ih = (e, h)
      go Equal ih = (e, h.1)
      go Greater ih = (h.0, ih)

  pub canonical-add : (r : Row S.C) (l : Rows S) → is_name r.name ≡ true → Bytes r.name → S.stands r.count ≡ true → Canonical S l
      → Canonical S (add_row S r l)
  canonical-add r [] z b p h = (z, b, p, tt, tt)
  canonical-add r (s ∷ l) z b p h = go (order r.name s.name) refl (canonical-add r l z b p h.4)
    where
      go : (w : Ordering) → order r.name s.name ≡ w → Canonical S (add_row S r l)
          → Canonical S (choose w (r ∷ s ∷ l) (joined S r s ∷ l) (s ∷ add_row S r l))
      go Less e ih = (z, b, p, (e, above-weak r.name s.name l e h.3), h)
      go Equal e ih = (z, b, S.stands-add _ _ p h.2, rw (order_same r.name s.name e) h.3, h.4)
      go Greater e ih = (h.0, h.1, h.2, above-add s.name r l (order_flip r.name s.name ∙ ap flip e) h.3, ih)

  pub canonical-plus : (a b : Rows S) → Canonical S a → Canonical S b → Canonical S (plus S a b)
  canonical-plus [] b g h = h
  canonical-plus (r ∷ a) b g h = canonical-add r (plus S a b) g.0 g.1 g.2 (canonical-plus a b g.4 h)

  -- ---- rows are determined by their counts
  pub count-cons : (r : Row S.C) (l : Rows S) (n : List ℕ) {w : Ordering} → order r.name n ≡ w
      → count_in S (r ∷ l) n ≡ S.add (counted w r.count) (count_in S l n)
  count-cons r l n e = ap (λ (w : Ordering). S.add (counted w r.count) (count_in S l n)) e

  -- a row of another name does not count
  pub count_past : (r : Row S.C) (l : Rows S) (n : List ℕ) {w : Ordering} → order r.name n ≡ w → counted w r.count ≡ S.none
      → count_in S (r ∷ l) n ≡ count_in S l n
  count_past r l n e f = count-cons r l n e ∙ rw f (S.add_none _)

  pub count-above : (l : Rows S) (n : List ℕ) → Above S n l → count_in S l n ≡ S.none
  count-above [] n h = refl
  count-above (r ∷ l) n h = count_past r l n (order_flip n r.name ∙ ap flip h.0) refl ∙ count-above l n h.1

  -- the count of the first name
  pub count_head : (r : Row S.C) (l : Rows S) → Above S r.name l → count_in S (r ∷ l) r.name ≡ r.count
  count_head r l h = count-cons r l r.name (order-refl r.name) ∙ rw (count-above l r.name h) (S.add_comm _ _ ∙ S.add_none _)

  -- it is not nothing
  head-some : {A : Type 0} (r : Row S.C) (l : Rows S) → S.stands r.count ≡ true → Above S r.name l → count_in S (r ∷ l) r.name ≡ S.none → A
  head-some r l p h e = no_true (sym S.none-stands ∙ ap S.stands (sym e ∙ count_head r l h) ∙ p)

  -- two lists with the same first name and the same counts: behind the first row the counts are the same
  tails : (r s : Row S.C) (a b : Rows S) (n : List ℕ) → r.name ≡ s.name → Above S r.name a → Above S s.name b
      → count_in S (r ∷ a) n ≡ count_in S (s ∷ b) n → count_in S a n ≡ count_in S b n
  tails r s a b n q g h e = go (order r.name n) refl (ap (λ (m : List ℕ). order m n) (sym q))
    where
      go : (w : Ordering) → order r.name n ≡ w → order s.name n ≡ order r.name n → count_in S a n ≡ count_in S b n
      go Less v t = sym (count_past r a n v refl) ∙ e ∙ count_past s b n (t ∙ v) refl
      go Greater v t = sym (count_past r a n v refl) ∙ e ∙ count_past s b n (t ∙ v) refl
      go Equal v t =
          let m : r.name ≡ n = order_same r.name n v in
          count-above a n (rw m at g) ∙ sym (count-above b n (rw (sym q ∙ m) at h))

  pub determined : (a b : Rows S) → Canonical S a → Canonical S b → ((n : List ℕ) → count_in S a n ≡ count_in S b n) → a ≡ b
  determined [] [] g h e = refl
  determined [] (s ∷ b) g h e = head-some s b h.2 h.3 (sym (e s.name))
  determined (r ∷ a) [] g h e = head-some r a g.2 g.3 (e r.name)
  determined (r ∷ a) (s ∷ b) g h e = go (order r.name s.name) refl (determined a b g.4 h.4)
    where
      go : (w : Ordering) → order r.name s.name ≡ w → (((n : List ℕ) → count_in S a n ≡ count_in S b n) → a ≡ b) → r ∷ a ≡ s ∷ b
      go Less w ih = head-some r a g.2 g.3 (e r.name ∙ count-above (s ∷ b) r.name (w, above-weak r.name s.name b w h.3))
      go Greater w ih =
          let v : order s.name r.name ≡ Less = order_flip r.name s.name ∙ ap flip w in
          head-some s b h.2 h.3 (sym (e s.name) ∙ count-above (r ∷ a) s.name (v, above-weak s.name r.name a v g.3))
      go Equal w ih =
          let q : r.name ≡ s.name = order_same r.name s.name w in
          let c : r.count ≡ s.count = sym (count_head r a g.3) ∙ e r.name ∙ ap (count_in S (s ∷ b)) q ∙ count_head s b h.3 in
          let t : a ≡ b = ih (λ n. tails r s a b n q g.3 h.3 (e n)) in
          λ i. record { name = q i; count = c i } ∷ t i

  -- ---- order and grouping
  pub plus_comm : (a b : Rows S) → Canonical S a → Canonical S b → plus S a b ≡ plus S b a
  plus_comm a b g h =
      determined (plus S a b) (plus S b a) (canonical-plus a b g h) (canonical-plus b a h g)
      (λ n. count-plus a b n ∙ S.add_comm _ _ ∙ sym (count-plus b a n))

  pub plus_assoc : (a b c : Rows S) → Canonical S a → Canonical S b → Canonical S c → plus S (plus S a b) c ≡ plus S a (plus S b c)
  plus_assoc a b c g h k =
      determined (plus S (plus S a b) c) (plus S a (plus S b c))
      (canonical-plus (plus S a b) c (canonical-plus a b g h) k) (canonical-plus a (plus S b c) g (canonical-plus b c h k))
      (λ n. simp count-plus (S.add_assoc _ _ _))

  pub plus-unit : (a : Rows S) → Canonical S a → plus S a [] ≡ a
  plus-unit a g = plus_comm a [] g tt

pub sums : (S : Counts) → Sums S
sums S = record {
  adds = count-plus S;
  keeps = canonical-plus S;
  determined = determined S;
  comm = plus_comm S;
  assoc = plus_assoc S;
  unit = plus-unit S;
}

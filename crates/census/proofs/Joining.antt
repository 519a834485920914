-- Two runs of places in order, joined one place at a time.
use Rattle.std.proofs.Common.{◌≡◌, ℕ, ◌+◌, ◌<◌, ◌≤◌, Bool, true, false, cond, ltb, List, [], ◌∷◌, ◌++◌, length, get_or, take, drop, set, sym, refl, ap, ◌∙◌, append_assoc, append-nil, add-zero, add-one, arith, length-drop, length-set, take-append-drop, drop_of_length-le, length-take-le, get_or-drop, get_or-take, take-suc-set, ltb-false, ltb-true, le-ltb, lt-ltb}
use lib.Seq.{slice, slice_empty}
use Rattle.wire.specs.Choice.{cond_yes, no_true, no_false}
use Rattle.wire.specs.Order.{order, is_before}
use Rattle.wire.proofs.TotalOrder.{flip, order_flip, order_same, order_trans}
use Rattle.wire.proofs.Lists.{drop-next}
use Rattle.std.specs.declared.cmp.Ordering.{Ordering}
use Rattle.std.specs.declared.cmp.Ordering.TheVariants.{Less, Equal, Greater}
use Rattle.census.specs.NamePlaces.{row_at}
use Rattle.census.specs.NameOrder.{comes_before, NoneBefore, Sorted, total, SortedFrom, left_at, HalvesSorted}

-- ---- names that do not fall
-- of two names one does not come before the other
not_after : (a b : List ℕ) → is_before (order a b) ≡ true → is_before (order b a) ≡ false
not_after a b e = go (order a b) refl
  where
    go : (w : Ordering) → order a b ≡ w → is_before (order b a) ≡ false
    go Less h = ap is_before (order_flip a b ∙ ap flip h)
    go Equal h = no_true (sym (ap is_before h) ∙ e)
    go Greater h = no_true (sym (ap is_before h) ∙ e)

not-falling : (a b c : List ℕ) → is_before (order b a) ≡ false → is_before (order c b) ≡ false → is_before (order c a) ≡ false
not-falling a b c p q = go (order b a) refl (order c b) refl
  where
    go : (v : Ordering) → order b a ≡ v → (w : Ordering) → order c b ≡ w → is_before (order c a) ≡ false
    go Less h w k = no_false (sym (ap is_before h) ∙ p)
    go Greater h Less k = no_false (sym (ap is_before k) ∙ q)
    go Equal h w k = ap (λ (x : List ℕ). is_before (order c x)) (sym (order_same b a h)) ∙ q
    go Greater h Equal k = ap (λ (x : List ℕ). is_before (order x a)) (order_same c b k) ∙ p
    go Greater h Greater k = ap is_before (order_flip a c ∙ ap flip (order_trans a b c (order_flip b a ∙ ap flip h) (order_flip c b ∙ ap flip k)))

module _ (s : List ℕ) where
  low-trans : (x y : ℕ) (l : List ℕ) → comes_before s y x ≡ false → NoneBefore s y l → NoneBefore s x l
  low-trans x y [] e h = tt
  low-trans x y (z ∷ l) e h = (not-falling (row_at s x).name (row_at s y).name (row_at s z).name e h.0, low-trans x y l e h.1)

  -- what is below the first of places in order is below them all
  pub low-front : (x : ℕ) (l : List ℕ) → Sorted s l → (0 < length l → comes_before s (get_or l 0 0) x ≡ false) → NoneBefore s x l
  low-front x [] r h = tt
  low-front x (y ∷ l) r h = let e = h (omega arith) in (e, low-trans x y l e r.0)

  low-insert : (p x : ℕ) (O A B : List ℕ) → NoneBefore s p (O ++ x ∷ A) → NoneBefore s p (O ++ B) → NoneBefore s p (O ++ x ∷ B)
  low-insert p x [] A B h k = (h.0, k)
  low-insert p x (q ∷ O) A B h k = (h.0, low-insert p x O A B h.1 k.1)

  insert : (O : List ℕ) (x : ℕ) (A B : List ℕ) → Sorted s (O ++ x ∷ A) → Sorted s (O ++ B) → NoneBefore s x B → Sorted s (O ++ x ∷ B)
  insert [] x A B h k l = (l, k)
  insert (p ∷ O) x A B h k l = (low-insert p x O A B h.0 k.0, insert O x A B h.1 k.1 l)

  rising-tail : (O B : List ℕ) → Sorted s (O ++ B) → Sorted s B
  rising-tail [] B h = h
  rising-tail (p ∷ O) B h = rising-tail O B h.1

  -- places that go on where others end
  low-on : (p x : ℕ) (O B : List ℕ) → NoneBefore s p (O ++ x ∷ []) → NoneBefore s x B → NoneBefore s p (O ++ x ∷ B)
  low-on p x [] B h l = (h.0, low-trans p x B h.0 l)
  low-on p x (q ∷ O) B h l = (h.0, low-on p x O B h.1 l)

  pub rising-on : (O : List ℕ) (x : ℕ) (B : List ℕ) → Sorted s (O ++ x ∷ []) → Sorted s B → NoneBefore s x B → Sorted s (O ++ x ∷ B)
  rising-on [] x B h k l = (l, k)
  rising-on (p ∷ O) x B h k l = (low-on p x O B h.0 l, rising-on O x B h.1 k l)

pub total-append : (f : ℕ → ℕ) (xs ys : List ℕ) → total f (xs ++ ys) ≡ total f xs + total f ys
total-append f [] ys = omega arith
total-append f (x ∷ xs) ys = let h = total-append f xs ys in omega arith

-- a sum over places and over the two parts of a cut
pub total-cut : (f : ℕ → ℕ) (n : ℕ) (l : List ℕ) → total f (take n l) + total f (drop n l) ≡ total f l
total-cut f n l = sym (total-append f (take n l) (drop n l)) ∙ ap (total f) (take-append-drop n l)

pub front-is : (i : ℕ) (l : List ℕ) → get_or (drop i l) 0 0 ≡ get_or l i 0
front-is i l = rw (get_or-drop, add-zero)

-- ---- the join
-- What is stored rises, and what is left of either run can follow it.
pub record Joining (s a : List ℕ) (mid : ℕ) (b : List ℕ) (i j o : ℕ) : Type 0 where
  pub low : i ≤ mid
  pub high : j ≤ length a
  pub place : o + mid ≡ i + j
  pub room : length a ≤ length b
  pub left : Sorted s (take o b ++ slice i mid a)
  pub right : Sorted s (take o b ++ drop j a)
  pub same : (f : ℕ → ℕ) → total f (take o b) + (total f (slice i mid a) + total f (drop j a)) ≡ total f a

pub join-start : {s a : List ℕ} {mid : ℕ} {b : List ℕ} → HalvesSorted s a mid b → Joining s a mid b 0 mid 0
join-start {a = a} {mid = mid} h = record {
  low = omega arith;
  high = h.cut;
  place = omega arith;
  room = h.room;
  left = h.first;
  right = h.second;
  same = λ f. omega (arith, total-cut f mid a);
}

-- what the test says
cond-not : (b : Bool) → cond b false true ≡ true → b ≡ false
cond-not true e = no_true e
cond-not false e = refl

picks-no : (b c : Bool) → cond b (cond c false true) true ≡ false → (b ≡ true) × (c ≡ true)
picks-no true true e = (refl, refl)
picks-no true false e = no_false e
picks-no false c e = no_false e

module _ {s a : List ℕ} {mid : ℕ} {b : List ℕ} {i j o : ℕ} (cut : mid ≤ length a) (w : Joining s a mid b i j o) (more : o < length a) where
  pub left-more : left_at s a i mid j ≡ true → i < mid
  left-more e = ltb-true i mid (cond_yes (ltb i mid) _ e).0

  left-low : left_at s a i mid j ≡ true → j < length a → comes_before s (get_or a j 0) (get_or a i 0) ≡ false
  left-low e h = cond-not _ (rw (lt-ltb j (length a) h) at (cond_yes (ltb i mid) _ e).1)

  right-said : left_at s a i mid j ≡ false → i < mid → (ltb j (length a) ≡ true) × (comes_before s (get_or a j 0) (get_or a i 0) ≡ true)
  right-said e h = picks-no _ _ (rw (lt-ltb i mid h) at e)

  pub right-more : left_at s a i mid j ≡ false → j < length a
  right-more e = go (ltb i mid) refl
    where
      go : (x : Bool) → ltb i mid ≡ x → j < length a
      go false h = omega (arith, w.place, w.low, ltb-false i mid h)
      go true h = ltb-true j (length a) (right-said e (ltb-true i mid h)).0

  took : (v : ℕ) → take (o + 1) (set b o v) ≡ take o b ++ (v ∷ [])
  took v = ap (λ (k : ℕ). take k (set b o v)) (add-one o) ∙ take-suc-set b o v (omega (arith, w.room))

  -- a place more stands behind what is stored
  follows : (x : ℕ) (l : List ℕ) → Sorted s (take o b ++ x ∷ l) → Sorted s (take (o + 1) (set b o x) ++ l)
  follows x l h = rw (took x, append_assoc) h

  stored : (f : ℕ → ℕ) (x : ℕ) → total f (take (o + 1) (set b o x)) ≡ total f (take o b) + f x
  stored f x = ap (total f) (took x) ∙ total-append f (take o b) (x ∷ []) ∙ omega arith

  left-next : i < mid → slice i mid a ≡ get_or a i 0 ∷ slice (i + 1) mid a
  left-next h =
      let l = length-take-le mid a cut in
      drop-next (take mid a) i (omega arith) ∙ ap (λ (x : ℕ). x ∷ slice (i + 1) mid a) (get_or-take mid a i 0 h)

  low-right : (x : ℕ) → (j < length a → comes_before s (get_or a j 0) x ≡ false) → NoneBefore s x (drop j a)
  low-right x h = low-front s x (drop j a) (rising-tail s (take o b) (drop j a) w.right) (λ k. rw (front-is j a) (h (omega (arith, length-drop j a))))

  low-left : (x : ℕ) → (i < mid → comes_before s (get_or a i 0) x ≡ false) → NoneBefore s x (slice i mid a)
  low-left x h =
      low-front s x (slice i mid a) (rising-tail s (take o b) (slice i mid a) w.left) (λ k.
      let m : i < mid = omega (arith, length-drop i (take mid a), length-take-le mid a cut) in
      rw (front-is i (take mid a), get_or-take mid a i 0 m) (h m))

  pub take_left : left_at s a i mid j ≡ true → Joining s a mid (set b o (get_or a i 0)) (i + 1) j (o + 1)
  take_left e =
      let h = left-more e in
      let x = get_or a i 0 in
      let l : Sorted s (take o b ++ get_or a i 0 ∷ slice (i + 1) mid a) = rw (left-next h) at w.left in
      record {
        low = omega arith;
        high = w.high;
        place = omega (arith, w.place);
        room = omega (arith, w.room, length-set b o x);
        left = follows x (slice (i + 1) mid a) l;
        right = follows x (drop j a) (insert s (take o b) x (slice (i + 1) mid a) (drop j a) l w.right (low-right x (left-low e)));
        same = λ f. omega (arith, w.same f, stored f x, ap (total f) (left-next h));
      }

  pub take-right : left_at s a i mid j ≡ false → Joining s a mid (set b o (get_or a j 0)) i (j + 1) (o + 1)
  take-right e =
      let h = right-more e in
      let x = get_or a j 0 in
      let r : Sorted s (take o b ++ get_or a j 0 ∷ drop (j + 1) a) = rw (drop-next a j h) at w.right in
      record {
        low = w.low;
        high = omega arith;
        place = omega (arith, w.place);
        room = omega (arith, w.room, length-set b o x);
        left = follows x (slice i mid a) (insert s (take o b) x (drop (j + 1) a) (slice i mid a) r w.left (low-left x (λ k. not_after (row_at s x).name (row_at s (get_or a i 0)).name (right-said e k).1)));
        right = follows x (drop (j + 1) a) r;
        same = λ f. omega (arith, w.same f, stored f x, ap (total f) (drop-next a j h));
      }

pub join-end : {s a : List ℕ} {mid : ℕ} {b : List ℕ} {i j o : ℕ} → Joining s a mid b i j o → length a ≤ o → SortedFrom s a (take (length a) b)
join-end {s} {a} {mid} {b} {i} {j} {o} w h =
    let e : o ≡ length a = omega (arith, w.place, w.low, w.high) in
    let d : i ≡ mid = omega (arith, w.place, w.low, w.high) in
    let y : drop j a ≡ [] = drop_of_length-le a {i = j} (omega (arith, w.place)) in
    let z : slice i mid a ≡ [] = ap (λ (k : ℕ). slice k mid a) d ∙ slice_empty mid a in
    record {
      rises = rw (← e, ← append-nil (take o b), ← y) w.right;
      same = λ f. omega (arith, w.same f, ap (total f) z, ap (total f) y, ap (λ (k : ℕ). total f (take k b)) e);
    }

-- ---- what the test is, by the code's branches
module _ (s a : List ℕ) (i mid j : ℕ) where
  pub left_ended : mid ≤ i → left_at s a i mid j ≡ false
  left_ended h = rw (le-ltb i mid h)

  pub right-ended : i < mid → length a ≤ j → left_at s a i mid j ≡ true
  right-ended h k = rw (lt-ltb i mid h, le-ltb j (length a) k)

  pub left-picks : i < mid → j < length a → {b : Bool} → comes_before s (get_or a j 0) (get_or a i 0) ≡ b → left_at s a i mid j ≡ cond b false true
  left-picks h k e = rw (lt-ltb i mid h, lt-ltb j (length a) k, e)

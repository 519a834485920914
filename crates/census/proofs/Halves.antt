-- Two halves of places, put in order one after the other and then as a whole.
use Rattle.std.proofs.Common.{◌≡◌, ℕ, ◌+◌, ◌-◌, ◌/◌, ◌<◌, ◌≤◌, false, List, [], ◌∷◌, ◌++◌, length, get_or, take, drop, sym, refl, ap, ◌∙◌, subst, ap₂, append-nil, add-one, arith, length-append, length-drop, take-append-drop, length-take-le, take-suc, take_at, drop_at}
use Rattle.std.specs.List.{sum_by}
use Rattle.std.specs.List.Sorted.{IsPermutation}
use Rattle.std.proofs.lemmas.List.Sorted.{sum_by-IsPermutation}
use Rattle.std.proofs.lemmas.List.Sums.{sum_by-cons}
use lib.Seq.{append_snoc, drop-length}
use borrow.Rule.Slice.PartMut.{put_mid, post_of, Post-is}
use Rattle.wire.proofs.Lists.{rest-is}
use Rattle.census.specs.NameOrder.{comes_before, Sorted, total, SortedFrom, HalvesSorted}
use Rattle.census.proofs.Joining.{total-append, total-cut, front-is, low-front, rising-on}

-- ---- places in another order
total-sum : (f : ℕ → ℕ) (l : List ℕ) → total f l ≡ sum_by f l
total-sum f [] = refl
total-sum f (p ∷ l) = ap (λ (n : ℕ). f p + n) (total-sum f l) ∙ sym (sum_by-cons f p l)

-- what is put in order from places that were brought into another order before
pub sorted-again : {s xs ys zs : List ℕ} → IsPermutation xs ys → SortedFrom s ys zs → SortedFrom s xs zs
sorted-again {s} {xs} {ys} {zs} p w = record {
  rises = w.rises;
  same = λ f. w.same f ∙ total-sum f ys ∙ sum_by-IsPermutation f xs ys p ∙ sym (total-sum f xs);
}

-- ---- what needs no join
pub sort-few : (s a : List ℕ) → length a < 2 → SortedFrom s a a
sort-few s [] h = record { rises = tt; same = λ f. refl }
sort-few s (x ∷ []) h = record { rises = (tt, tt); same = λ f. refl }
sort-few s (x ∷ y ∷ a) h = absurd (omega arith)

-- the second run starts no lower than the first ends
pub in_order : {s a : List ℕ} {mid : ℕ} {b : List ℕ} → 0 < mid → HalvesSorted s a mid b → comes_before s (get_or a mid 0) (get_or a (mid - 1) 0) ≡ false → SortedFrom s a a
in_order {s} {a} {mid} h j e =
    let x = get_or a (mid - 1) 0 in
    let m : mid ≡ mid - 1 + 1 = omega arith in
    let front : take mid a ≡ take (mid - 1) a ++ (get_or a (mid - 1) 0 ∷ []) =
    ap (λ (k : ℕ). take k a) (m ∙ add-one (mid - 1)) ∙ take-suc a (mid - 1) 0 (omega (arith, j.cut)) in
    let whole : take (mid - 1) a ++ (get_or a (mid - 1) 0 ∷ drop mid a) ≡ a = sym (append_snoc (take (mid - 1) a) x (drop mid a)) ∙ ap (λ (l : List ℕ). l ++ drop mid a) (sym front) ∙ take-append-drop mid a in
    record {
      rises = subst (Sorted s) whole (rising-on s (take (mid - 1) a) x (drop mid a) (rw front at j.first) j.second (low-front s x (drop mid a) j.second (λ k. rw (front-is mid a) e)));
      same = λ f. refl;
    }

-- ---- two halves, lent one after the other
pub half_is : (a : List ℕ) → length a / 2 ≡ length (take (length a / 2) a)
half_is a = sym (length-take-le (length a / 2) a (omega arith))

-- what is lent of the second half once the first came back as x, and the whole once the second came back as y
abbrev pub second : List ℕ → List ℕ → ℕ → List ℕ
second a x mid = take (length (x ++ drop mid a) - mid) (drop mid (x ++ drop mid a))

abbrev pub both : List ℕ → List ℕ → ℕ → List ℕ → List ℕ
both a x mid y = put_mid mid (length (x ++ drop mid a) - mid) (x ++ drop mid a) y

module _ (a x : List ℕ) (mid : ℕ) (h : mid ≤ length a) (n : length x ≡ mid) where
  second_is : second a x mid ≡ drop mid a
  second_is = rest-is mid (x ++ drop mid a) ∙ drop_at x (drop mid a) mid n

  pub second-length : length (second a x mid) ≡ length a - mid
  second-length = ap length second_is ∙ length-drop mid a

  both_is : (y : List ℕ) → both a x mid y ≡ x ++ y
  both_is y =
      let w = x ++ drop mid a in
      let none : post_of mid (length (x ++ drop mid a) - mid) (x ++ drop mid a) ≡ [] =
      Post-is mid (length w) w (omega (arith, length-append x (drop mid a), length-drop mid a)) ∙ drop-length w in
      ap (λ (z : List ℕ). take mid w ++ (y ++ z)) none ∙ ap₂ (λ (u v : List ℕ). u ++ v) (take_at x (drop mid a) mid n) (append-nil y)

-- The halves of a came back as x and y, each in order, with b as room.
pub record Halved (s a x y b : List ℕ) (mid : ℕ) : Type 0 where
  pub some : 0 < mid
  pub more : mid < length a
  pub front : length x ≡ mid
  pub back : length y ≡ length (second a x mid)
  pub room : length a ≤ length b
  pub first : SortedFrom s (take mid a) x
  pub rest : SortedFrom s (second a x mid) y

module _ {s a x y b : List ℕ} {mid : ℕ} (w : Halved s a x y b mid) where
  cut : mid ≤ length a
  cut = omega (arith, w.more)

  is : both a x mid y ≡ x ++ y
  is = both_is a x mid cut w.front y

  pub halved-length : length (both a x mid y) ≡ length a
  halved-length = ap length is ∙ omega (arith, length-append x y, w.front, w.back, second-length a x mid cut w.front, w.more)

  pub halved-joins : (0 < mid) × (mid < length (both a x mid y)) × HalvesSorted s (both a x mid y) mid b
  halved-joins = (
    w.some,
    omega (arith, halved-length, w.more),
    record {
      cut = omega (arith, halved-length, w.more);
      room = omega (arith, halved-length, w.room);
      first = rw (is, take_at x y mid w.front) w.first.rises;
      second = rw (is, drop_at x y mid w.front) w.rest.rises;
    },
  )

  pub halved-end : {d : List ℕ} → SortedFrom s (both a x mid y) d → SortedFrom s a d
  halved-end e = record {
    rises = e.rises;
    same = λ f. omega (arith, e.same f, ap (total f) is, total-append f x y, w.first.same f, w.rest.same f, ap (total f) (second_is a x mid cut w.front), total-cut f mid a);
  }

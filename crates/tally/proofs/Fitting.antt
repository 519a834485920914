-- The tally of rows in a room and the merge of two tallies, case by case; and that rows fit where a sum with them does.
use Prim.Native.Nat.{ℕ, ◌<◌, ◌≤◌}
use mathlib.Core.Path.{◌≡◌, refl}
use mathlib.Core.Bool.{Bool, true, false}
use mathlib.Core.List.{List, [], ◌∷◌, ◌++◌}
use mathlib.Core.Logic.{◌⊎◌, inl, inr}
use mathlib.Core.Option.{some, none}
use native.Mathlib.Omega.{arith}
use lib.Dec.{leb}
use lib.ListN.{length, drop, length-append}
use borrow.Author.Tests.{leb-true, leb-false, le-leb, lt-leb}
use Rattle.wire.specs.Answer.{good, plain, no_room, tally_malformed, too_many, Answered}
use Rattle.wire.proofs.Answers.{room-short, room-put}
use Rattle.wire.proofs.Tests.{and_yes, yes_and}
use Rattle.wire.specs.Order.{order, choose}
use Rattle.wire.proofs.TotalOrder.{order_same}
use Rattle.std.specs.declared.cmp.Ordering.{Ordering}
use Rattle.std.specs.declared.cmp.Ordering.TheVariants.{Less, Equal, Greater}
use Rattle.tally.specs.Rows.{joined, add_row, plus, Canonical}
use Rattle.tally.specs.Tally.{TallyKind, TallyRow, TallyRows, fields, tally, rows_of, limited, countable, max_rows}
use Rattle.tally.specs.Operations.{tallied, merge_of}
use Rattle.tally.specs.Theorems.{Fits}
use Rattle.tally.specs.Walks.{rows_bytes}
use Rattle.tally.proofs.Held.{row-size, tally-size}
use Rattle.tally.proofs.Canon.{plus_comm}

module _ (k : TallyKind) where
  -- ---- rows in a room: they fit, 14 or 11
  pub tallied-good : (room : ℕ) (l : TallyRows k) → Fits k room l → tallied k room l ≡ good ((tally k).encode l)
  unfolding tallied
  tallied-good room l h = rw (h.0, le-leb _ _ h.1)

  pub tallied-room : (room : ℕ) (l : TallyRows k) → countable k l ≡ true → room < length ((tally k).encode l) → tallied k room l ≡ plain no_room
  unfolding tallied
  tallied-room room l e h = rw (e, lt-leb _ _ h)

  pub tallied-many : (room : ℕ) (l : TallyRows k) → countable k l ≡ false → tallied k room l ≡ plain too_many
  unfolding tallied
  tallied-many room l e = rw e

  -- the same of a call that puts them into the buffer d
  module _ (d : List ℕ) (l : TallyRows k) where
    pub many-answered : countable k l ≡ false → Answered (plain too_many) d d (tallied k (length d) l)
    many-answered h = rw (tallied-many (length d) l h) (refl, refl)

    pub room-answered : countable k l ≡ true → length d < length ((tally k).encode l) → Answered (plain no_room) d d (tallied k (length d) l)
    unfolding tallied
    room-answered h i = rw h (room-short d ((tally k).encode l) i)

    pub good-answered : {m : ℕ} {a : List ℕ} → countable k l ≡ true → length ((tally k).encode l) ≡ m → m ≤ length d → a ≡ (tally k).encode l ++ drop m d
        → Answered (good m) d a (tallied k (length d) l)
    unfolding tallied
    good-answered h e i q = rw h (room-put d ((tally k).encode l) e i q)

  -- which of the three it is
  pub data Tallying (room : ℕ) (l : TallyRows k) : Type 0 where
    fit : Fits k room l → tallied k room l ≡ good ((tally k).encode l) → Tallying room l
    overfull : {n : ℕ} → (n ≡ too_many) ⊎ (n ≡ no_room) → tallied k room l ≡ plain n → Tallying room l

  pub tallying : (room : ℕ) (l : TallyRows k) → Tallying room l
  tallying room l = go (countable k l) refl (leb (length ((tally k).encode l)) room) refl
    where
      go : (t : Bool) → countable k l ≡ t → (u : Bool) → leb (length ((tally k).encode l)) room ≡ u → Tallying room l
      go true e true f = let h : Fits k room l = (e, leb-true _ _ f) in fit h (tallied-good room l h)
      go true e false f = overfull (inr refl) (tallied-room room l e (leb-false _ _ f))
      go false e u f = overfull (inl refl) (tallied-many room l e)

  -- ---- merging: 13 for the first, 13 for the second, or the sum of the rows
  module _ (room : ℕ) (a b : List ℕ) where
    pub merge-first : rows_of k a ≡ none → merge_of k room a b ≡ plain tally_malformed
    unfolding merge_of
    merge-first p = rw p

    pub merge-second : {x : TallyRows k} → rows_of k a ≡ some x → rows_of k b ≡ none → merge_of k room a b ≡ plain tally_malformed
    unfolding merge_of
    merge-second p q = rw (p, q)

    pub merge-both : {x y : TallyRows k} → rows_of k a ≡ some x → rows_of k b ≡ some y → merge_of k room a b ≡ tallied k room (plus k.counts x y)
    unfolding merge_of
    merge-both p q = rw (p, q)

  -- ---- a part of rows that fit fits
  -- l is no more than m, in counts, rows and bytes
  pub record Within (l m : TallyRows k) : Type 0 where
    pub limit : limited k m ≡ true → limited k l ≡ true
    pub rows : length l ≤ length m
    pub size : length (rows_bytes k l) ≤ length (rows_bytes k m)

  within-front : (r : TallyRow k) (l : TallyRows k) → Within l (r ∷ l)
  within-front r l = record {
    limit = λ h. (and_yes (k.limit r.count) (limited k l) h).1;
    rows = omega arith;
    size = rw length-append (omega arith);
  }

  within-cons : (s : TallyRow k) (l m : TallyRows k) → Within l m → Within (s ∷ l) (s ∷ m)
  within-cons s l m w = record {
    limit = λ h. let p = and_yes (k.limit s.count) (limited k m) h in yes_and p.0 (w.limit p.1);
    rows = omega (arith, w.rows);
    size = rw (length-append ((fields k).encode s) (rows_bytes k l), length-append ((fields k).encode s) (rows_bytes k m)) (omega (arith, w.size));
  }

  within-joined : (r s : TallyRow k) (l : TallyRows k) → order r.name s.name ≡ Equal → Within (s ∷ l) (joined k.counts r s ∷ l)
  within-joined r s l e = record {
    limit = λ h. let p = and_yes _ _ h in yes_and (k.limit-part _ _ p.0) p.1;
    rows = omega arith;
    size = rw (
      length-append ((fields k).encode s) (rows_bytes k l),
      length-append ((fields k).encode (joined k.counts r s)) (rows_bytes k l),
      row-size k s,
      row-size k (joined k.counts r s),
      order_same r.name s.name e,
    ) (omega arith);
  }

  within-add : (r : TallyRow k) (l : TallyRows k) → Within l (add_row k.counts r l)
  within-add r [] = within-front r []
  within-add r (s ∷ l) = go (order r.name s.name) refl (within-add r l)
    where
      go : (w : Ordering) → order r.name s.name ≡ w → Within l (add_row k.counts r l)
          → Within (s ∷ l) (choose w (r ∷ s ∷ l) (joined k.counts r s ∷ l) (s ∷ add_row k.counts r l))
      go Less e ih = within-front r (s ∷ l)
      go Equal e ih = within-joined r s l e
      go Greater e ih = within-cons s l (add_row k.counts r l) ih

  fits-within : (room : ℕ) (l m : TallyRows k) → Within l m → Fits k room m → Fits k room l
  fits-within room l m w h =
      let c = and_yes (limited k m) (leb (length m) max_rows) h.0 in
      let n = leb-true (length m) max_rows c.1 in
      let x = tally-size k l in
      let y = tally-size k m in
      (yes_and (w.limit c.0) (le-leb (length l) max_rows (omega (arith, w.rows))), omega (arith, h.1, w.size))

  pub fits-right : (room : ℕ) (a b : TallyRows k) → Fits k room (plus k.counts a b) → Fits k room b
  fits-right room [] b h = h
  fits-right room (r ∷ a) b h = fits-right room a b (fits-within room _ _ (within-add r (plus k.counts a b)) h)

  pub fits-left : (room : ℕ) (a b : TallyRows k) → Canonical k.counts a → Canonical k.counts b → Fits k room (plus k.counts a b) → Fits k room a
  fits-left room a b g h f = fits-right room b a (rw (plus_comm k.counts a b g h) at f)

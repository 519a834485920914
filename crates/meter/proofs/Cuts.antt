-- Cuts leave parts of which each node of the whole lies in exactly one, and which are all good where the whole is.
use Rattle.std.proofs.Common.{◌≡◌, ℕ, ◌+◌, ◌<◌, ◌≤◌, Bool, true, false, ◌&&◌, ltb, leb, List, [], ◌∷◌, ◌++◌, ℤ, pos, ◌+ℤ◌, sym, refl, ap, ◌∙◌, arith, ltb-false, ltb-true, lt-ltb, le-leb, leb-true}
use mathlib.Core.Bool.{and-true, and_assoc}
use lib.Signed.{le_z}
use borrow.Author.Tests.{lt-leb}
use Rattle.wire.proofs.Tests.{and_yes, yes_and}
use Rattle.wire.specs.Choice.{bit}
use Rattle.wire.proofs.Ints.{up, down, plus-is, le_yes, le-no, yes_le, no_le}
use Rattle.position.specs.Keys.{between}
use Rattle.position.specs.Lots.{axis, in_lot, good_lot}
use Rattle.position.specs.Spans.{good_span}
use Rattle.position.proofs.Ranges.{between-yes}
use Rattle.position.proofs.Lots.{axis-yes, yes-axis}
use Rattle.position.specs.declared.part.Part.{Part}
use Rattle.position.specs.Parts.{good_part}
use Rattle.meter.specs.Standing.{Node, in_part}
use Rattle.meter.specs.Cuts.{Cut, on-x, on-y, on-z, at_second, both_in, allowed, lower, upper, Cuts, uncut, cut, shares, all_good, Partition}

-- ---- one test in the place of two: exactly one of them holds where it does
record Either (a b c : Bool) : Type 0 where
  one : bit a ≡ bit b + bit c

-- with another test beside them
beside : (r : Bool) {a b c : Bool} → Either a b c → Either (r && a) (r && b) (r && c)
beside true e = record { one = e.one }
beside false e = record { one = refl }

before-left : (a b c r : Bool) → bit a ≡ bit b + bit c → bit (a && r) ≡ bit (b && r) + bit (c && r)
before-left true true true r e = absurd (omega arith)
before-left true true false r e = omega arith
before-left true false true r e = omega arith
before-left true false false r e = absurd (omega arith)
before-left false true c r e = absurd (omega arith)
before-left false false true r e = absurd (omega arith)
before-left false false false r e = refl

before : {a b c : Bool} (r : Bool) → Either a b c → Either (a && r) (b && r) (c && r)
before {a} {b} {c} r e = record { one = before-left a b c r e.one }

-- ---- an axis cut between c and c + 1
module _ (a c b : ℤ) (h : both_in a c b ≡ true) where
  low : up a + down c ≤ up c + down a
  low = (between-yes a c b (and_yes (between a c b) (between a (c +ℤ pos 1) b) h).0).0

  high : up c + down b < up b + down c
  high = omega (arith, (between-yes a (c +ℤ pos 1) b (and_yes (between a c b) (between a (c +ℤ pos 1) b) h).1).1, plus-is c (pos 1))

  between-one : (x : ℤ) (t : Bool) → le_z x c ≡ t → bit (between a x b) ≡ bit (between a x c) + bit (between (c +ℤ pos 1) x b)
  unfolding between
  between-one x true e =
      let k = le_yes x c e in
      rw (e, yes_le x b (omega (arith, high)), no_le (c +ℤ pos 1) x (omega (arith, plus-is c (pos 1)))) (omega arith)
  between-one x false e =
      let k = le-no x c e in
      rw (e, yes_le a x (omega (arith, low)), yes_le (c +ℤ pos 1) x (omega (arith, plus-is c (pos 1)))) (omega arith)

  on-axis : (x : ℤ) → Either (between a x b) (between a x c) (between (c +ℤ pos 1) x b)
  on-axis x = record { one = between-one x (le_z x c) refl }

-- ---- a span cut at a second
module _ (f s u : ℕ) (h : (leb f s && leb s u) ≡ true) where
  not-below : f ≤ s
  not-below = leb-true f s (and_yes (leb f s) (leb s u) h).0

  not-above : s ≤ u
  not-above = leb-true s u (and_yes (leb f s) (leb s u) h).1

  second-one : (t : ℕ) (b : Bool) → ltb t s ≡ b → bit (leb f t && ltb t u) ≡ bit (leb f t && ltb t s) + bit (leb s t && ltb t u)
  second-one t true e =
      let k = ltb-true t s e in
      rw (e, lt-ltb t u (omega (arith, not-above)), lt-leb s t (omega arith)) (omega arith)
  second-one t false e =
      let k = ltb-false t s e in
      rw (e, le-leb f t (omega (arith, not-below)), le-leb s t (omega arith)) (omega arith)

  in-time : (t : ℕ) → Either (leb f t && ltb t u) (leb f t && ltb t s) (leb s t && ltb t u)
  in-time t = record { one = second-one t (ltb t s) refl }

-- a node of the part lies in exactly one of the two
in_one : (c : Cut) (p : Part) → allowed c p ≡ true → (x : Node) → Either (in_part p x) (in_part (lower c p) x) (in_part (upper c p) x)
in_one (on-x c) p h x = before _ (before _ (on-axis p.lot.x0 c p.lot.x1 h x.place.x))
in_one (on-y c) p h x = before _ (beside (between p.lot.x0 x.place.x p.lot.x1) (before _ (on-axis p.lot.y0 c p.lot.y1 h x.place.y)))
in_one (on-z c) p h x =
    before _ (beside (between p.lot.x0 x.place.x p.lot.x1) (beside (between p.lot.y0 x.place.y p.lot.y1) (on-axis p.lot.z0 c p.lot.z1 h x.place.z)))
in_one (at_second s) p h x = beside (in_lot p.lot x.place.x x.place.y x.place.z) (in-time p.span.from s p.span.until h x.time)

-- ---- the two are good exactly where the part is
by_both : (s t : Bool) → (s ≡ true → t ≡ true) → (t ≡ true → s ≡ true) → s ≡ t
by_both true t f g = sym (f refl)
by_both false true f g = g refl
by_both false false f g = refl

axis-cut : (a c b : ℤ) → both_in a c b ≡ true → axis a b ≡ (axis a c && axis (c +ℤ pos 1) b)
axis-cut a c b h = by_both _ _ there back
  where
    there : axis a b ≡ true → (axis a c && axis (c +ℤ pos 1) b) ≡ true
    there e =
        let k = axis-yes a b e in
        let l = low a c b h in
        let g = high a c b h in
        let n = plus-is c (pos 1) in
        yes_and (yes-axis a c (omega arith, omega arith, omega arith)) (yes-axis (c +ℤ pos 1) b (omega arith, omega arith, omega arith))

    back : (axis a c && axis (c +ℤ pos 1) b) ≡ true → axis a b ≡ true
    back e =
        let k = and_yes (axis a c) (axis (c +ℤ pos 1) b) e in
        let x = axis-yes a c k.0 in
        let y = axis-yes (c +ℤ pos 1) b k.1 in
        let l = low a c b h in
        let g = high a c b h in
        yes-axis a b (omega arith, omega arith, omega arith)

span-cut : (f s u : ℕ) → (leb f s && leb s u) ≡ true → leb f u ≡ (leb f s && leb s u)
span-cut f s u h = rw h (let a = not-below f s u h in let b = not-above f s u h in le-leb f u (omega arith))

-- one test holds where both of two do
record Both (a b c : Bool) : Type 0 where
  same : a ≡ (b && c)

both-beside : (r : Bool) {a b c : Bool} → Both a b c → Both (r && a) (r && b) (r && c)
both-beside true e = record { same = e.same }
both-beside false e = record { same = refl }

both_left : (b c r : Bool) → ((b && c) && r) ≡ ((b && r) && (c && r))
both_left true true true = refl
both_left true true false = refl
both_left true false true = refl
both_left true false false = refl
both_left false c r = refl

both-before : {a b c : Bool} (r : Bool) → Both a b c → Both (a && r) (b && r) (c && r)
both-before {a} {b} {c} r e = record { same = ap (λ (t : Bool). t && r) e.same ∙ both_left b c r }

on_both : (a c b : ℤ) → both_in a c b ≡ true → Both (axis a b) (axis a c) (axis (c +ℤ pos 1) b)
on_both a c b h = record { same = axis-cut a c b h }

both-good : (c : Cut) (p : Part) → allowed c p ≡ true → Both (good_part p) (good_part (lower c p)) (good_part (upper c p))
both-good (on-x c) p h = both-before (good_span p.span) (both-before (axis p.lot.y0 p.lot.y1 && axis p.lot.z0 p.lot.z1) (on_both p.lot.x0 c p.lot.x1 h))
both-good (on-y c) p h =
    both-before (good_span p.span) (both-beside (axis p.lot.x0 p.lot.x1) (both-before (axis p.lot.z0 p.lot.z1) (on_both p.lot.y0 c p.lot.y1 h)))
both-good (on-z c) p h =
    both-before (good_span p.span) (both-beside (axis p.lot.x0 p.lot.x1) (both-beside (axis p.lot.y0 p.lot.y1) (on_both p.lot.z0 c p.lot.z1 h)))
both-good (at_second s) p h = both-beside (good_lot p.lot) record { same = span-cut p.span.from s p.span.until h }

-- ---- a list of cuts
module _ (c : Cut) (p : Part) (h : allowed c p ≡ true) (back : List Part) where
  cut-shares : (front : List Part) (x : Node) → shares (front ++ lower c p ∷ upper c p ∷ back) x ≡ shares (front ++ p ∷ back) x
  cut-shares [] x = omega (arith, (in_one c p h x).one)
  cut-shares (q ∷ front) x = ap (λ (n : ℕ). bit (in_part q x) + n) (cut-shares front x)

  cut-good : (front : List Part) → all_good (front ++ lower c p ∷ upper c p ∷ back) ≡ all_good (front ++ p ∷ back)
  cut-good [] = sym (ap (λ (t : Bool). t && all_good back) (both-good c p h).same ∙ and_assoc (good_part (lower c p)) (good_part (upper c p)) (all_good back))
  cut-good (q ∷ front) = ap (λ (t : Bool). good_part q && t) (cut-good front)

pub partition : {whole : Part} {parts : List Part} → Cuts whole parts → Partition whole parts
partition {whole} uncut = record { shared = λ x. omega arith; good = and-true (good_part whole) }
partition (cut front p back c k h) =
    let r = partition k in
    record { shared = λ x. cut-shares c p h back front x ∙ r.shared x; good = cut-good c p h back front ∙ r.good }

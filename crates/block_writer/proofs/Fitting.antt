-- Parts that fit, in plain words.
use Prim.Native.Nat.{ℕ, zero, suc, ◌<◌, ◌≤◌}
use mathlib.Core.Path.{◌≡◌, refl}
use mathlib.Core.Logic.{◌↔◌}
use mathlib.Core.List.{List, [], ◌∷◌}
use mathlib.Core.Bool.{Bool, true, false, cond, ◌&&◌, ◌||◌}
use native.Mathlib.Omega.{arith}
use lib.Dec.{ltb, eqb}
use lib.ListN.{length, get_or}
use borrow.Author.Tests.{le-leb, lt-leb, leb-true, leb-false, lt-ltb, ltb-true, eq-eqb, ne_eqb, eqb-true, eqb-false}
use Rattle.wire.specs.Choice.{no_false}
use Rattle.wire.proofs.Tests.{and_yes, three-yes, yes_and, yes-three}
use Rattle.mapblock.specs.Layout.{since, is_counted, list_zero}
use Rattle.block_reader.specs.Questions.{are_whole}
use Rattle.mapblock.specs.declared.head.Head.{Head}
use Rattle.mapblock.proofs.GoodRows.{either}
use Rattle.block_writer.specs.BlockParts.{BlockParts, form_fits, head_fits, all_below, param0_fits, metadata_fits, timers_fit, fits}

-- document 01, number 12, but for the sections, and document 02, item 3
pub record Fitting (p : BlockParts) : Type 0 where
  pub size0 : length p.param0 ≡ 4096
  pub size1 : length p.param1 ≡ 4096
  pub size2 : length p.param2 ≡ 4096
  pub lighting : p.head.version < 27 → p.head.lighting ≡ 65535
  pub timer : (p.head.version ≡ 24 → ⊥) → p.head.timer ≡ 0
  pub param0_fits : p.head.version < 24 → (i : ℕ) → i < length p.param0 → get_or p.param0 i 0 < 256
  pub form : p.head.form ≤ 1
  pub form-in-22 : p.head.version < 23 → p.head.form ≡ 0
  pub of_zero : (p.head.form ≡ 0 → ⊥) → length p.metadata ≡ 0
  pub before-24 : p.head.version < 24 → length p.timers ≡ 0
  pub of-24 : p.head.version ≡ 24 → (p.head.timer ≡ 1 → ⊥) → length p.timers ≡ 0

-- ---- tests
pub cond-then : (c x : Bool) → cond c true x ≡ true → c ≡ false → x ≡ true
cond-then true x h e = no_false e
cond-then false x h e = h

then-cond : (c x : Bool) → (c ≡ false → x ≡ true) → cond c true x ≡ true
then-cond true x h = refl
then-cond false x h = h refl

or_no : (a b : Bool) → (a || b) ≡ false → (a ≡ false) × (b ≡ false)
or_no true b h = no_false h
or_no false b h = (refl, h)

pub below-there : (m : ℕ) (l : List ℕ) → all_below m l ≡ true → (i : ℕ) → i < length l → get_or l i 0 < m
unfolding all_below
below-there m [] h i k = absurd (omega arith)
below-there m (x ∷ l) h zero k = ltb-true x m (and_yes (ltb x m) (all_below m l) h).0
below-there m (x ∷ l) h (suc i) k = below-there m l (and_yes (ltb x m) (all_below m l) h).1 i (omega arith)

below-back : (m : ℕ) (l : List ℕ) → ((i : ℕ) → i < length l → get_or l i 0 < m) → all_below m l ≡ true
unfolding all_below
below-back m [] h = refl
below-back m (x ∷ l) h = yes_and (lt-ltb x m (h zero (omega arith))) (below-back m l (λ i k. h (suc i) (omega arith)))

-- ---- the tests of `fits`
module _ (h : Head) where
  module _ (c : head_fits h ≡ true) where
    carried : (cond (since 27 h.version) true (eqb h.lighting 65535) ≡ true) × (cond (eqb h.version 24) true (eqb h.timer 0) ≡ true) × (form_fits h ≡ true)
    carried = three-yes (cond (since 27 h.version) true (eqb h.lighting 65535)) (cond (eqb h.version 24) true (eqb h.timer 0)) (form_fits h) c

    -- under 27 there is no lighting
    pub unlit : h.version < 27 → h.lighting ≡ 65535
    unlit k = eqb-true h.lighting 65535 (cond-then (since 27 h.version) (eqb h.lighting 65535) carried.0 (lt-leb 27 h.version k))

    -- outside 24 the timer byte is 0
    pub no-timer : (h.version ≡ 24 → ⊥) → h.timer ≡ 0
    no-timer k = eqb-true h.timer 0 (cond-then (eqb h.version 24) (eqb h.timer 0) carried.1 (ne_eqb h.version 24 k))

    -- counted, or from 23 on a single 0
    pub one_form : (h.form ≤ 1) × (h.version < 23 → h.form ≡ 0)
    one_form = go (is_counted h.form) refl
      where
        go : (b : Bool) → is_counted h.form ≡ b → (h.form ≤ 1) × (h.version < 23 → h.form ≡ 0)
        go true e = let z = eqb-true h.form 0 e in (omega arith, λ _. z)
        go false e =
            let x = and_yes (eqb h.form list_zero) (since 23 h.version) (cond-then (is_counted h.form) (eqb h.form list_zero && since 23 h.version) carried.2 e) in
            (omega (arith, eqb-true h.form 1 x.0), λ k. absurd (omega (arith, leb-true 23 h.version x.1)))

  form-back : (h.form ≤ 1) → (h.version < 23 → h.form ≡ 0) → form_fits h ≡ true
  form-back l k = then-cond (is_counted h.form) _ λ e.
      let n = eqb-false h.form 0 e in
      yes_and (eq-eqb h.form 1 (omega arith)) (le-leb 23 h.version (either 23 h.version (λ i. i) (λ i. absurd (n (k i)))))

  -- a single 0 has no rows
  pub no-metadata : (metadata : List ℕ) → metadata_fits h metadata ≡ true → (h.form ≡ 0 → ⊥) → length metadata ≡ 0
  no-metadata metadata f n = eqb-true (length metadata) 0 (cond-then (is_counted h.form) (eqb (length metadata) 0) f (ne_eqb h.form 0 n))

  abbrev may_hold : Bool
  may_hold = since 25 h.version || (eqb h.version 24 && eqb h.timer 1)

  none-held : h.version < 25 → (h.version ≡ 24 → h.timer ≡ 1 → ⊥) → may_hold ≡ false
  none-held k n = rw (lt-leb 25 h.version k) (none (eqb h.version 24) refl (eqb h.timer 1) refl)
    where
      none : (x : Bool) → eqb h.version 24 ≡ x → (y : Bool) → eqb h.timer 1 ≡ y → (x && y) ≡ false
      none true e true f = absurd (n (eqb-true h.version 24 e) (eqb-true h.timer 1 f))
      none true e false f = refl
      none false e y f = refl

  -- before 25 there are timers only in 24 with the byte 1
  pub no-timers : (timers : List ℕ) → timers_fit h timers ≡ true → h.version < 25 → (h.version ≡ 24 → h.timer ≡ 1 → ⊥) → length timers ≡ 0
  no-timers timers t k n = eqb-true (length timers) 0 (cond-then may_hold (eqb (length timers) 0) t (none-held k n))

  timed-back : (timers : List ℕ) → (h.version < 24 → length timers ≡ 0) → (h.version ≡ 24 → (h.timer ≡ 1 → ⊥) → length timers ≡ 0) → timers_fit h timers ≡ true
  timed-back timers before of-24 = then-cond may_hold (eqb (length timers) 0) λ e.
      let x = or_no (since 25 h.version) (eqb h.version 24 && eqb h.timer 1) e in
      let low = leb-false 25 h.version x.0 in
      eq-eqb (length timers) 0 (either 24 h.version
      (λ k. of-24 (omega arith) (λ t. no_false (let z : h.version ≡ 24 = omega arith in rw (eq-eqb h.version 24 z, eq-eqb h.timer 1 t) at x.1)))
      before)

module _ (p : BlockParts) (f : fits p ≡ true) where
  -- what is tested of the param lists and the sections
  abbrev listed : Bool
  listed = param0_fits p.head.version p.param0 && (metadata_fits p.head p.metadata && timers_fit p.head p.timers)

  parted : (are_whole (length p.param0) (length p.param1) (length p.param2) ≡ true) × (head_fits p.head ≡ true) × (listed ≡ true)
  parted = three-yes (are_whole (length p.param0) (length p.param1) (length p.param2)) (head_fits p.head) listed f

  lists-fit : (param0_fits p.head.version p.param0 ≡ true) × (metadata_fits p.head p.metadata ≡ true) × (timers_fit p.head p.timers ≡ true)
  lists-fit = three-yes (param0_fits p.head.version p.param0) (metadata_fits p.head p.metadata) (timers_fit p.head p.timers) parted.2

  pub fits-head_fits : head_fits p.head ≡ true
  fits-head_fits = parted.1

  pub fits-narrow : param0_fits p.head.version p.param0 ≡ true
  fits-narrow = lists-fit.0

  pub fits-formed : metadata_fits p.head p.metadata ≡ true
  fits-formed = lists-fit.1

  pub fits-timed : timers_fit p.head p.timers ≡ true
  fits-timed = lists-fit.2

pub fits-plain : (p : BlockParts) → (fits p ≡ true) ↔ Fitting p
fits-plain p = (there, back)
  where
    v : ℕ
    v = p.head.version

    there : fits p ≡ true → Fitting p
    there h =
        let y = three-yes (eqb (length p.param0) 4096) (eqb (length p.param1) 4096) (eqb (length p.param2) 4096) (parted p h).0 in
        let none = no-timers p.head p.timers (fits-timed p h) in
        record {
          size0 = eqb-true (length p.param0) 4096 y.0;
          size1 = eqb-true (length p.param1) 4096 y.1;
          size2 = eqb-true (length p.param2) 4096 y.2;
          lighting = unlit p.head (fits-head_fits p h);
          timer = no-timer p.head (fits-head_fits p h);
          param0_fits = λ k. below-there 256 p.param0 (cond-then (since 24 v) (all_below 256 p.param0) (fits-narrow p h) (lt-leb 24 v k));
          form = (one_form p.head (fits-head_fits p h)).0;
          form-in-22 = (one_form p.head (fits-head_fits p h)).1;
          of_zero = no-metadata p.head p.metadata (fits-formed p h);
          before-24 = λ k. none (omega arith) (λ e. absurd (omega arith));
          of-24 = λ e k. none (omega arith) (λ _. k);
        }

    back : Fitting p → fits p ≡ true
    back g =
        yes-three (yes-three (eq-eqb _ _ g.size0) (eq-eqb _ _ g.size1) (eq-eqb _ _ g.size2))
        (yes-three (then-cond (since 27 v) _ (λ e. eq-eqb _ _ (g.lighting (leb-false 27 v e)))) (then-cond (eqb v 24) _ (λ e. eq-eqb _ _ (g.timer (eqb-false v 24 e))))
        (form-back p.head g.form g.form-in-22))
        (yes-three (then-cond (since 24 v) _ (λ e. below-back 256 p.param0 (g.param0_fits (leb-false 24 v e))))
        (then-cond (is_counted p.head.form) _ (λ e. eq-eqb _ _ (g.of_zero (eqb-false p.head.form 0 e))))
        (timed-back p.head p.timers g.before-24 g.of-24))

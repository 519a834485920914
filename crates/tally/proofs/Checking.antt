-- Rows checked one after the other: what is left to read, after those read so far, decides.
use Prim.Native.Nat.{ℕ, ◌+◌, ◌-◌, ◌<◌, ◌≤◌}
use mathlib.Core.Path.{◌≡◌, refl, ap, sym, ◌∙◌}
use mathlib.Core.Bool.{Bool, true, false, cond}
use mathlib.Core.List.{List, [], ◌∷◌, ◌++◌}
use mathlib.Core.Option.{some, none, none-ne-some}
use mathlib.Core.Logic.{inl, inr}
use native.Mathlib.Nat.{zero-add}
use native.Mathlib.Omega.{arith}
use lib.Dec.{eqb}
use lib.ListN.{length, take, drop, length-drop}
use borrow.Author.Tests.{eq-eqb, ne_eqb, eqb-true, eqb-false}
use Rattle.wire.proofs.Tests.{yes_and, and_no}
use Rattle.wire.specs.Read.{Read, done, refused, to_option, to_option-done}
use Rattle.wire.specs.Format.{items, read_items}
use Rattle.wire.proofs.Joints.{refine-done, refine-passes}
use Rattle.wire.proofs.Items.{after, items-start, items-on, items_refused, items-end}
use Rattle.tally.specs.Rows.{Row, Rows}
use Rattle.tally.specs.Tally.{Malformed, malformed, rises, fields, may_stand, row, ones, one}
use Rattle.tally.specs.Told.{told_row}
use Rattle.tally.specs.Walks.{may_follow, is_some, takes}
use Rattle.tally.proofs.Held.{row_inside}
use Rattle.wire.proofs.Lists.{rest-is}
use Rattle.tally.proofs.FrontRows.{name-part, row-refused, row-good, row-bad}
use Rattle.std.specs.Prelude.{Some, None, Option as Optional}
use Rattle.std.specs.Borrow.{Bor}

-- ---- a row after those seen, by the same row judged alone
module _ (seen : Rows ones) (s : List ℕ) where
  alone : {a : Row ℕ} {n : ℕ} → (row one []).read s ≡ done a n → ((fields one).read s ≡ done a n) × (may_stand one [] a ≡ true)
  unfolding row
  alone h = (refine-done (may_stand one []) malformed (fields one) s h, refine-passes (may_stand one []) malformed (fields one) s h)

  module _ {a : Row ℕ} {n : ℕ} (h : (row one []).read s ≡ done a n) where
    row-follows : rises seen a.name ≡ true → (row one seen).read s ≡ done a n
    row-follows e = row-good one seen s (alone h).0 (yes_and e (alone h).1)

    row-falls : rises seen a.name ≡ false → (row one seen).read s ≡ refused malformed 0
    row-falls e = row-bad one seen s (alone h).0 (and_no (rises seen a.name) (may_stand one [] a) (inl e))

  no-row-by : (r : Read Malformed (Row ℕ)) → (fields one).read s ≡ r → none ≡ to_option ((row one []).read s) → (e : Malformed) × (p : ℕ) × ((row one seen).read s ≡ refused e p)
  no-row-by (done a n) g h = go (may_stand one [] a) refl
    where
      go : (b : Bool) → may_stand one [] a ≡ b → (e : Malformed) × (p : ℕ) × ((row one seen).read s ≡ refused e p)
      go true j = absurd (none-ne-some _ (h ∙ ap to_option (row-good one [] s g j)))
      go false j = (malformed, 0, row-bad one seen s g (and_no (rises seen a.name) (may_stand one [] a) (inr j)))
  no-row-by (refused e p) g h = (e, p, row-refused one seen s g)

  no-row-follows : none ≡ to_option ((row one []).read s) → (e : Malformed) × (p : ℕ) × ((row one seen).read s ≡ refused e p)
  no-row-follows h = no-row-by ((fields one).read s) refl h

-- ---- so many rows
pub record Checking (count : ℕ) (s rest : List ℕ) (last : Optional (Bor (List ℕ))) (left : ℕ) : Type 0 where
  pub pre : Rows ones
  pub seen : Rows ones
  pub at : ℕ
  pub reads : after pre at (read_items (row one) left seen rest) ≡ (items (row one) count).read s
  pub size : at + length rest ≡ length s
  pub follows : (n : List ℕ) → may_follow last n ≡ rises seen n

pub checking-start : (count : ℕ) (s : List ℕ) {left : ℕ} → left ≡ count → Checking count s s None left
checking-start count s e = record { pre = []; seen = []; at = 0; reads = rw e (items-start (row one) count s); size = zero-add (length s); follows = λ n. refl }

module _ {count : ℕ} {s rest : List ℕ} {last : Optional (Bor (List ℕ))} {left : ℕ} (k : Checking count s rest last left) where
  none-taken : {e : Malformed} {p : ℕ} → (items (row one) count).read s ≡ refused e p → false ≡ takes (items (row one) count) s
  none-taken h = rw h

  module _ (more : 0 < left) where
    pub checking-none : told_row rest None ≡ to_option ((row one []).read rest) → false ≡ takes (items (row one) count) s
    checking-none h =
        let x = no-row-follows k.seen rest h in
        none-taken (sym k.reads ∙ items_refused (row one) left k.pre k.seen k.at rest more x.2)

    module _ (n c : ℕ) (h : told_row rest (Some (n, c)) ≡ to_option ((row one []).read rest)) where
      read : (row one []).read rest ≡ done (record { name = take n (drop 2 rest); count = c }) (n + 10)
      read = to_option-done ((row one []).read rest) h

      -- the code compares a part
      named : {b v : Bool} → b ≡ may_follow last (take (n + 2 - 2) (drop 2 rest)) → b ≡ v → rises k.seen (take n (drop 2 rest)) ≡ v
      named f g = sym (k.follows (take n (drop 2 rest))) ∙ ap (may_follow last) (sym (name-part n rest)) ∙ sym f ∙ g

      pub checking-falls : {b : Bool} → b ≡ may_follow last (take (n + 2 - 2) (drop 2 rest)) → b ≡ false → false ≡ takes (items (row one) count) s
      checking-falls f g =
          none-taken (sym k.reads ∙ items_refused (row one) left k.pre k.seen k.at rest more (row-falls k.seen rest read (named f g)))

      pub checking-on : {b : Bool} {name : Bor (List ℕ)} {fewer : ℕ} → b ≡ may_follow last (take (n + 2 - 2) (drop 2 rest)) → b ≡ true
          → name.now ≡ take (n + 2 - 2) (drop 2 rest) → fewer ≡ left - 1 → Checking count s (take (length rest - (n + 10)) (drop (n + 10) rest)) (Some name) fewer
      checking-on f g e z =
          let r : Row ℕ = record { name = take n (drop 2 rest); count = c } in
          record {
            pre = k.pre ++ r ∷ [];
            seen = r ∷ k.seen;
            at = k.at + (n + 10);
            reads = rw (z, rest-is (n + 10) rest) (sym (items-on (row one) left k.pre k.seen k.at rest more (row-follows k.seen rest read (named f g))) ∙ k.reads);
            size = rw (rest-is (n + 10) rest, length-drop) (omega (arith, k.size, row_inside rest n c h));
            follows = λ m. rw (e ∙ name-part n rest);
          }

  pub checking-end : left ≤ 0 → eqb (length rest) 0 ≡ takes (items (row one) count) s
  checking-end h =
      let z : left ≡ 0 = omega arith in
      let e : (items (row one) count).read s ≡ done k.pre k.at = sym k.reads ∙ items-end (row one) left k.pre k.seen k.at rest z in
      rw e (go (eqb (length rest) 0) refl)
    where
      go : (b : Bool) → eqb (length rest) 0 ≡ b → b ≡ is_some (cond (eqb k.at (length s)) (some k.pre) none)
      go true e = let p = eqb-true (length rest) 0 e in rw (eq-eqb k.at (length s) (omega (arith, k.size)))
      go false e = let p = eqb-false (length rest) 0 e in rw (ne_eqb k.at (length s) (λ q. p (omega (arith, k.size))))

-- Where an inventory ends, as a loop goes about it: from place p on, which begins a line where the flag is true.
use Prim.Native.Nat.{ℕ, suc, ◌+◌, ◌<◌, ◌≤◌}
use mathlib.Core.Path.{◌≡◌, refl, ap, sym}
use mathlib.Core.List.{List, ◌∷◌}
use mathlib.Core.Bool.{Bool, true, false}
use mathlib.Core.Option.{Option, some, none}
use native.Mathlib.Nat.{zero-add}
use native.Mathlib.Numerals.{add-one}
use native.Mathlib.Omega.{arith}
use lib.Dec.{eqb}
use borrow.Author.Tests.{eqb-true}
use lib.ListN.{length, get_or, drop, length-drop, drop_of_length-le}
use lib.Seq.{drop-cons}
use Rattle.wire.specs.Marks.{starts, starts-long}
use Rattle.mapblock.specs.Inventory.{end_line, after, through, sized, inventory}
use Rattle.mapblock.specs.Told.{ended}

-- told from p bytes before
abbrev pub later : ℕ → Option ℕ → Option ℕ
later p none = none
later p (some n) = some (p + n)

later-after : (p : ℕ) (o : Option ℕ) → later p (after o) ≡ later (suc p) o
later-after p none = refl
later-after p (some n) = let z : p + suc n ≡ suc p + n = omega arith in ap some z

pub later-zero : (o : Option ℕ) → later 0 o ≡ o
later-zero none = refl
later-zero (some n) = ap some (zero-add n)

module _ (s : List ℕ) (p : ℕ) where
  pub line-none : (b : Bool) → length s ≤ p → later p (through b (drop p s)) ≡ none
  line-none b h = rw (drop_of_length-le s h)

  pub line-here : {b : Bool} → p < length s → b ≡ true → starts end_line (drop p s) ≡ true → later p (through b (drop p s)) ≡ some (p + 13)
  line-here {b} h f e = let k : starts end_line (get_or s p 0 ∷ drop (suc p) s) ≡ true = rw (drop-cons s p 0 h) at e in rw (f, drop-cons s p 0 h, k)

  pub line_other : {b : Bool} → p < length s → b ≡ true → starts end_line (drop p s) ≡ false
      → later p (through b (drop p s)) ≡ later (p + 1) (through (eqb (get_or s p 0) 10) (drop (p + 1) s))
  line_other {b} h f e =
      let k : starts end_line (get_or s p 0 ∷ drop (suc p) s) ≡ false = rw (drop-cons s p 0 h) at e in
      rw (f, drop-cons s p 0 h, k, add-one p) (later-after p (through (eqb (get_or s p 0) 10) (drop (suc p) s)))

  pub line-inside : {b : Bool} → p < length s → b ≡ false → later p (through b (drop p s)) ≡ later (p + 1) (through (eqb (get_or s p 0) 10) (drop (p + 1) s))
  line-inside {b} h f = rw (f, drop-cons s p 0 h, add-one p) (later-after p (through (eqb (get_or s p 0) 10) (drop (suc p) s)))

  -- what begins with another byte than the end line is none
  pub line-begins : p < length s → (get_or s p 0 ≡ 69 → ⊥) → starts end_line (drop p s) ≡ false
  line-begins h n = go (eqb 69 (get_or s p 0)) refl
    where
      go : (b : Bool) → eqb 69 (get_or s p 0) ≡ b → starts end_line (drop p s) ≡ false
      go true e = absurd (n (sym (eqb-true 69 (get_or s p 0) e)))
      go false e = rw (drop-cons s p 0 h, e)

  pub line-fits : starts end_line (drop p s) ≡ true → p + 13 ≤ length s
  line-fits e = omega (arith, simp length-drop at (starts-long end_line (drop p s) e))

pub inventory-ended : (s : List ℕ) {o : Option ℕ} → through true s ≡ o → ended (sized s o) ≡ ended (inventory.read s)
unfolding inventory
inventory-ended s e = rw e

-- Counted lists of rows, in the language of formats and in plain words: every row good, and their numbers distinct.
use Prim.Native.Nat.{ℕ, zero, suc, ◌^◌, ◌<◌}
use mathlib.Core.Path.{◌≡◌, refl, sym, ◌∙◌}
use mathlib.Core.Logic.{◌↔◌, inl, inr}
use mathlib.Core.List.{List, [], ◌∷◌}
use mathlib.Core.Bool.{Bool, true, false, cond}
use lib.Dec.{eqb}
use lib.ListN.{length}
use borrow.Author.Tests.{eq-eqb, eqb-true}
use Rattle.wire.specs.Choice.{no_true, no_false}
use Rattle.wire.specs.Format.{iso, items, OkItems}
use Rattle.wire.specs.Formats.{listed}
use Rattle.mapblock.specs.Inventory.{BlockFormat}
use Rattle.mapblock.specs.Layout.{all, unused}
use Rattle.mapblock.specs.Valid.{Each, Has, Distinct, Rows}

-- ---- a number is used where some element has it
module _ {A : Type 0} (key : A → ℕ) where
  pub has-used : (l : List A) (n : ℕ) → Has key n l → unused key all l n ≡ false
  unfolding unused
  has-used [] n h = absurd h
  has-used (a ∷ l) n (inl e) = rw (eq-eqb n (key a) (sym e))
  has-used (a ∷ l) n (inr h) = go (eqb n (key a)) (has-used l n h)
    where
      go : (c : Bool) → unused key all l n ≡ false → cond c false (unused key all l n) ≡ false
      go true e = refl
      go false e = e

  pub used-has : (l : List A) (n : ℕ) → unused key all l n ≡ false → Has key n l
  unfolding unused
  used-has [] n e = no_false e
  used-has (a ∷ l) n e = go (eqb n (key a)) refl e (used-has l n)
    where
      go : (c : Bool) → eqb n (key a) ≡ c → cond c false (unused key all l n) ≡ false → (unused key all l n ≡ false → Has key n l) → Has key n (a ∷ l)
      go true f e ih = inl (sym (eqb-true n (key a) f))
      go false f e ih = inr (ih e)

  unused-none : (l : List A) (n : ℕ) → unused key all l n ≡ true → Has key n l → ⊥
  unused-none l n e h = no_true (sym (has-used l n h) ∙ e)

  none-unused : (l : List A) (n : ℕ) → (Has key n l → ⊥) → unused key all l n ≡ true
  none-unused l n h = go (unused key all l n) refl
    where
      go : (c : Bool) → unused key all l n ≡ c → unused key all l n ≡ true
      go true e = e
      go false e = absurd (h (used-has l n e))

-- ---- rows that do not look at those before them
module _ {A : Type 0} (Good : A → Type 0) (f : BlockFormat A) (row : (a : A) → f.Ok a ↔ Good a) where
  each-there : (k : ℕ) (seen l : List A) → OkItems (λ _. f) k seen l → Each Good l
  each-there zero seen [] h = tt
  each-there zero seen (a ∷ l) h = absurd h
  each-there (suc k) seen [] h = absurd h
  each-there (suc k) seen (a ∷ l) h = ((row a).0 h.0, each-there k (a ∷ seen) l h.1)

  each_back : (seen l : List A) → Each Good l → OkItems (λ _. f) (length l) seen l
  each_back seen [] h = tt
  each_back seen (a ∷ l) h = ((row a).1 h.0, each_back (a ∷ seen) l h.1)

  -- with a count of k bytes
  pub each-ok : (k : ℕ) (l : List A) → (listed k (λ _. f)).Ok l ↔ ((length l < 256 ^ k) × Each Good l)
  unfolding listed iso items
  each-ok k l = ((λ h. (h.0, each-there (length l) [] l h.1)), λ h. (h.0, each_back [] l h.1))

-- ---- rows whose number none before them has
module _ {A : Type 0} (key : A → ℕ) (Good : A → Type 0) (item : List A → BlockFormat A)
    (row : (seen : List A) (a : A) → (item seen).Ok a ↔ (Good a × (unused key all seen (key a) ≡ true))) where
  -- no number of the one list is in the other
  Apart : List A → List A → Type 0
  Apart seen l = (n : ℕ) → Has key n l → Has key n seen → ⊥

  rows-there : (k : ℕ) (seen l : List A) → OkItems item k seen l → Each Good l × Distinct key l × Apart seen l
  unfolding Apart
  rows-there zero seen [] h = (tt, tt, λ n p q. p)
  rows-there zero seen (a ∷ l) h = absurd h
  rows-there (suc k) seen [] h = absurd h
  rows-there (suc k) seen (a ∷ l) h =
      let x = (row seen a).0 h.0 in
      let y = rows-there k (a ∷ seen) l h.1 in
      let new : Has key (key a) seen → ⊥ = unused-none key seen (key a) x.1 in
      ((x.0, y.0), ((λ p. y.2 (key a) p (inl refl)), y.1), go new y.2)
    where
      go : (Has key (key a) seen → ⊥) → ((n : ℕ) → Has key n l → Has key n (a ∷ seen) → ⊥) → (n : ℕ) → Has key n (a ∷ l) → Has key n seen → ⊥
      go new apart n (inl e) q = new (rw e q)
      go new apart n (inr p) q = apart n p (inr q)

  rows_back : (seen l : List A) → Each Good l → Distinct key l → Apart seen l → OkItems item (length l) seen l
  unfolding Apart
  rows_back seen [] g d h = tt
  rows_back seen (a ∷ l) g d h =
      ((row seen a).1 (g.0, none-unused key seen (key a) (h (key a) (inl refl))), rows_back (a ∷ seen) l g.1 d.1 go)
    where
      go : (n : ℕ) → Has key n l → Has key n (a ∷ seen) → ⊥
      go n p (inl e) = d.0 (rw e p)
      go n p (inr q) = h n (inr p) q

  pub rows_ok : (l : List A) → (listed 2 item).Ok l ↔ (Rows Good l × Distinct key l)
  unfolding listed iso items Apart
  rows_ok l = (
    (λ h. let x = rows-there (length l) [] l h.1 in (record { count = h.0; each = x.0 }, x.1)),
    (λ h. (h.0.count, rows_back [] l h.0.each h.1 (λ n p q. q))),
  )

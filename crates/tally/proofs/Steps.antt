-- Adding a row and adding lists of rows, as code walks them: a row at a time from the front.
use Prim.Native.Nat.{ℕ}
use mathlib.Core.Path.{◌≡◌, refl, ap, ◌∙◌}
use mathlib.Core.List.{List, [], ◌∷◌, ◌++◌}
use Rattle.wire.specs.Order.{order}
use Rattle.wire.proofs.TotalOrder.{flip, order_same, order_flip}
use Rattle.std.specs.declared.cmp.Ordering.TheVariants.{Less, Equal, Greater}
use Rattle.tally.specs.Rows.{Counts, Row, Rows, joined, add_row, plus, Above, Canonical}
use Rattle.tally.specs.LookedUp.{Below}
use Rattle.tally.proofs.Canon.{above-weak, above-add}

module _ (S : Counts) where
  -- ---- a row added: in front of all, behind the first
  pub add-front : (r : Row S.C) (l : Rows S) → Above S r.name l → add_row S r l ≡ r ∷ l
  add-front r [] h = refl
  add-front r (s ∷ l) h = rw h.0

  pub add-skip : (r s : Row S.C) (l : Rows S) → order s.name r.name ≡ Less → add_row S r (s ∷ l) ≡ s ∷ add_row S r l
  add-skip r s l h = rw (order_flip s.name r.name, h)

  -- ---- a row added behind rows D whose names come before it
  pub add-behind : (r : Row S.C) (D L : Rows S) → Below S r.name D → add_row S r (D ++ L) ≡ D ++ add_row S r L
  add-behind r [] L h = refl
  add-behind r (d ∷ D) L h = add-skip r d (D ++ L) h.0 ∙ ap (λ (l : Rows S). d ∷ l) (add-behind r D L h.1)

  pub add_at : (r s : Row S.C) (D R : Rows S) → Below S r.name D → order r.name s.name ≡ Equal
      → add_row S r (D ++ s ∷ R) ≡ D ++ joined S r s ∷ R
  add_at r s D R h e = rw (add-behind r D (s ∷ R) h, e)

  pub add-between : (r : Row S.C) (D R : Rows S) → Below S r.name D → Above S r.name R → add_row S r (D ++ R) ≡ D ++ r ∷ R
  add-between r D R h k = rw (add-behind r D R h, add-front r R k)

  -- ---- lists of rows added
  pub above-plus : (n : List ℕ) (a b : Rows S) → Above S n a → Above S n b → Above S n (plus S a b)
  above-plus n [] b g h = h
  above-plus n (r ∷ a) b g h = above-add S n r (plus S a b) g.0 (above-plus n a b g.1 h)

  plus-skip : (a : Rows S) (s : Row S.C) (b : Rows S) → Above S s.name a → plus S a (s ∷ b) ≡ s ∷ plus S a b
  plus-skip [] s b h = refl
  plus-skip (r ∷ a) s b h = rw (plus-skip a s b h.1) (add-skip r s (plus S a b) h.0)

  module _ (r s : Row S.C) (a b : Rows S) (g : Canonical S (r ∷ a)) (h : Canonical S (s ∷ b)) where
    pub step-before : order r.name s.name ≡ Less → plus S (r ∷ a) (s ∷ b) ≡ r ∷ plus S a (s ∷ b)
    step-before w = add-front r (plus S a (s ∷ b)) (above-plus r.name a (s ∷ b) g.3 (w, above-weak S r.name s.name b w h.3))

    pub step_after : order r.name s.name ≡ Greater → plus S (r ∷ a) (s ∷ b) ≡ s ∷ plus S (r ∷ a) b
    step_after w =
        let v : order s.name r.name ≡ Less = order_flip r.name s.name ∙ ap flip w in
        plus-skip (r ∷ a) s b (v, above-weak S s.name r.name a v g.3)

    pub step_same : order r.name s.name ≡ Equal → plus S (r ∷ a) (s ∷ b) ≡ joined S r s ∷ plus S a b
    step_same w = rw (plus-skip a s b (rw (order_same r.name s.name w) at g.3), w)

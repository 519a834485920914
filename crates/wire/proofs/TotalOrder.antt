-- The order of bytes is a total order.
use Prim.Native.Nat.{ℕ, ◌<◌}
use mathlib.Core.Path.{◌≡◌, refl}
use mathlib.Core.Bool.{Bool, true, false}
use mathlib.Core.List.{List, [], ◌∷◌}
use native.Mathlib.Omega.{arith}
use lib.Dec.{ltb}
use borrow.Author.Tests.{ltb-true, ltb-false, lt-ltb, le-ltb}
use Rattle.std.specs.declared.cmp.Ordering.{Ordering}
use Rattle.std.specs.declared.cmp.Ordering.TheVariants.{Less, Equal, Greater}
use Rattle.wire.specs.Order.{order}

-- ---- it is a total order
-- the first of two bytes is less, equal or more
data Sides (x y : ℕ) : Type 0 where
  less : ltb x y ≡ true → ltb y x ≡ false → x < y → Sides x y
  equal : x ≡ y → Sides x y
  more : ltb x y ≡ false → ltb y x ≡ true → y < x → Sides x y

sides : (x y : ℕ) → Sides x y
sides x y = go (ltb x y) refl (ltb y x) refl
  where
    go : (b : Bool) → ltb x y ≡ b → (d : Bool) → ltb y x ≡ d → Sides x y
    go true e d f = let h = ltb-true x y e in less e (le-ltb y x (omega arith)) h
    go false e true f = more e f (ltb-true y x f)
    go false e false f = let h = ltb-false x y e in let k = ltb-false y x f in equal (omega arith)

not-less : (x : ℕ) → ltb x x ≡ false
not-less x = le-ltb x x (omega arith)

pub order-refl : (a : List ℕ) → order a a ≡ Equal
order-refl [] = refl
order-refl (x ∷ xs) = simp (not-less x) (order-refl xs)

pub order_same : (a b : List ℕ) → order a b ≡ Equal → a ≡ b
order_same [] [] e = refl
order_same [] (y ∷ ys) e = cc
order_same (x ∷ xs) [] e = cc
order_same (x ∷ xs) (y ∷ ys) e = go (sides x y) (order_same xs ys)
  where
    go : Sides x y → (order xs ys ≡ Equal → xs ≡ ys) → x ∷ xs ≡ y ∷ ys
    go (less p q h) r = cc
    go (more p q h) r = cc
    go (equal q) r = let p : order xs ys ≡ Equal = cc (not-less y) in cc (r p)

-- seen from the other side
abbrev pub flip : Ordering → Ordering
flip Less = Greater
flip Equal = Equal
flip Greater = Less

pub order_flip : (a b : List ℕ) → order b a ≡ flip (order a b)
order_flip [] [] = refl
order_flip [] (y ∷ ys) = refl
order_flip (x ∷ xs) [] = refl
order_flip (x ∷ xs) (y ∷ ys) = go (sides x y) (order_flip xs ys)
  where
    go : Sides x y → order ys xs ≡ flip (order xs ys) → order (y ∷ ys) (x ∷ xs) ≡ flip (order (x ∷ xs) (y ∷ ys))
    go (less p q h) r = simp (p, q)
    go (more p q h) r = simp (p, q)
    go (equal q) r = simp (q, not-less y) r

not-before : (x y : ℕ) (xs ys : List ℕ) → ltb x y ≡ false → ltb y x ≡ true → order (x ∷ xs) (y ∷ ys) ≡ Less → ⊥
not-before x y xs ys e f h = let z : Greater ≡ Less = cc in let w : ◌≡◌ {A = ℕ} 0 1 = cc in omega arith

pub order_trans : (a b c : List ℕ) → order a b ≡ Less → order b c ≡ Less → order a c ≡ Less
order_trans [] [] c p q = q
order_trans [] (y ∷ ys) [] p q = cc
order_trans [] (y ∷ ys) (z ∷ zs) p q = refl
order_trans (x ∷ xs) [] c p q = cc
order_trans (x ∷ xs) (y ∷ ys) [] p q = cc
order_trans (x ∷ xs) (y ∷ ys) (z ∷ zs) p q = go (sides x y) (sides y z) (order_trans xs ys zs)
  where
    go : Sides x y → Sides y z → (order xs ys ≡ Less → order ys zs ≡ Less → order xs zs ≡ Less) → order (x ∷ xs) (z ∷ zs) ≡ Less
    go (less e f h) (less e₂ f₂ k) r = simp (lt-ltb x z (omega arith))
    go (less e f h) (equal w) r = simp (lt-ltb x z (omega arith))
    go (less e f h) (more e₂ f₂ k) r = absurd (not-before y z ys zs e₂ f₂ q)
    go (more e f h) s r = absurd (not-before x y xs ys e f p)
    go (equal w) (less e₂ f₂ k) r = simp (lt-ltb x z (omega arith))
    go (equal w) (more e₂ f₂ k) r = absurd (not-before y z ys zs e₂ f₂ q)
    go (equal w) (equal v) r =
        let p' : order xs ys ≡ Less = cc (not-less y) in
        let q' : order ys zs ≡ Less = cc (not-less z) in
        simp (w, v, not-less z) (r p' q')

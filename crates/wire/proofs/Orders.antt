-- The library's order of slices of bytes is document 01's; and numbers are in the order of their bytes, so that eight bytes at a time can be compared.
use Prim.Native.Nat.{ℕ, zero, suc, ◌+◌, ◌*◌, ◌/◌, ◌%◌, ◌^◌, ◌<◌, ◌≤◌}
use mathlib.Core.Path.{◌≡◌, refl, ap, ap₂, ◌∙◌, sym}
use mathlib.Core.Bool.{Bool, true, false}
use mathlib.Core.List.{List, [], ◌∷◌, ◌++◌, append_assoc}
use native.Mathlib.Nat.{pow-suc}
use native.Mathlib.Omega.{arith}
use lib.Dec.{ltb, eqb}
use lib.ListN.{length, drop, length-drop}
use lib.Seq.{drop-drop}
use borrow.Author.Tests.{lt-ltb, le-ltb, ltb-true, ltb-false, eqb-true, eqb-false}
use Rattle.std.specs.Ordering.{nat_cmp}
use Rattle.std.specs.Cmp.Lexicographic.{slice_cmp}
use Rattle.std.specs.declared.cmp.Ordering.TheVariants.{Less, Greater}
use Rattle.std.specs.declared.option.Option.TheVariants.{Some}
use Rattle.wire.specs.Bytes.{Bytes, to_be, bytes_drop}
use Rattle.wire.specs.Format.{run, iso, ends-in}
use Rattle.wire.specs.Formats.{number, u64}
use Rattle.wire.specs.Order.{order}
use Rattle.wire.specs.Told.{short, told_number}
use Rattle.wire.proofs.TotalOrder.{flip, order_flip}

pub slice_cmp-order : (a b : List ℕ) → slice_cmp nat_cmp a b ≡ order a b
slice_cmp-order [] [] = refl
slice_cmp-order [] (y ∷ ys) = refl
slice_cmp-order (x ∷ xs) [] = refl
slice_cmp-order (x ∷ xs) (y ∷ ys) = go (slice_cmp-order xs ys) (ltb x y) refl (eqb x y) refl (ltb y x) refl
  where
    go : slice_cmp nat_cmp xs ys ≡ order xs ys → (b : Bool) → ltb x y ≡ b → (d : Bool) → eqb x y ≡ d → (e : Bool) → ltb y x ≡ e → slice_cmp nat_cmp (x ∷ xs) (y ∷ ys) ≡ order (x ∷ xs) (y ∷ ys)
    go r true f d g e h = simp f
    go r false f true g true h = absurd (omega (arith, eqb-true x y g, ltb-true y x h))
    go r false f true g false h = simp (f, g, h) r
    go r false f false g true h = simp (f, g, h)
    go r false f false g false h = absurd (eqb-false x y g (omega (arith, ltb-false x y f, ltb-false y x h)))

-- what stands behind the same bytes
order-front : (p u w : List ℕ) → order (p ++ u) (p ++ w) ≡ order u w
order-front [] u w = refl
order-front (x ∷ p) u w = rw (le-ltb x x (omega arith)) (order-front p u w)

-- numbers of k bytes are in the order of their bytes
pub order-from_be : (k x y : ℕ) (u w : List ℕ) → x < y → y < 256 ^ k → order (to_be k x ++ u) (to_be k y ++ w) ≡ Less
order-from_be zero x y u w h l = absurd (omega arith)
order-from_be (suc k) x y u w h l = go (ltb (x / 256) (y / 256)) refl (order-from_be k (x / 256) (y / 256) (x % 256 ∷ u) (y % 256 ∷ w))
  where
    high : y / 256 < 256 ^ k
    high = let p : y < 256 ^ k * 256 = rw pow-suc at l in omega arith

    apart : order (to_be (suc k) x ++ u) (to_be (suc k) y ++ w) ≡ order (to_be k (x / 256) ++ (x % 256 ∷ u)) (to_be k (y / 256) ++ (y % 256 ∷ w))
    apart = ap₂ order (append_assoc (to_be k (x / 256)) (x % 256 ∷ []) u) (append_assoc (to_be k (y / 256)) (y % 256 ∷ []) w)

    go : (b : Bool) → ltb (x / 256) (y / 256) ≡ b
        → (x / 256 < y / 256 → y / 256 < 256 ^ k → order (to_be k (x / 256) ++ (x % 256 ∷ u)) (to_be k (y / 256) ++ (y % 256 ∷ w)) ≡ Less)
        → order (to_be (suc k) x ++ u) (to_be (suc k) y ++ w) ≡ Less
    go true e ih = apart ∙ ih (ltb-true (x / 256) (y / 256) e) high
    go false e ih =
        let p = ltb-false (x / 256) (y / 256) e in
        let q : x / 256 ≡ y / 256 = omega arith in
        let r : x % 256 < y % 256 = omega arith in
        let same : order (to_be k (x / 256) ++ (x % 256 ∷ u)) (to_be k (y / 256) ++ (y % 256 ∷ w)) ≡ order (x % 256 ∷ u) (y % 256 ∷ w) =
        rw q (order-front (to_be k (y / 256)) (x % 256 ∷ u) (y % 256 ∷ w)) in
        apart ∙ same ∙ rw (lt-ltb (x % 256) (y % 256) r)

-- ---- eight bytes at a time
-- the number that stands at a place
pub record Word (a : List ℕ) (i x : ℕ) : Type 0 where
  pub front : drop i a ≡ to_be 8 x ++ drop (i + 8) a
  pub small : x < 256 ^ 8
  pub inside : i + 8 ≤ length a

pub word_at : (a : List ℕ) (i x : ℕ) → Bytes a → told_number 8 (Some x) ≡ (u64 {ends = short}).read (drop i a) → Word a i x
unfolding number iso run
word_at a i x b h =
    let k = (u64 {ends = short}).backward (drop i a) x 8 (bytes_drop i a b) (sym h) in
    let l : 8 ≤ length (drop i a) = ends-in (u64 {ends = short}) {s = drop i a} (sym h) in
    record {
      front = k.front ∙ rw (drop-drop 8 i a);
      small = k.ok;
      inside = omega (arith, length-drop i a);
    }

module _ {a b : List ℕ} {i x y : ℕ} (p : Word a i x) (q : Word b i y) where
  -- other numbers are in the order of what begins with them
  pub words-apart : (x ≡ y → ⊥) → nat_cmp x y ≡ order (drop i a) (drop i b)
  words-apart n = go (ltb x y) refl (eqb x y) refl
    where
      go : (t : Bool) → ltb x y ≡ t → (d : Bool) → eqb x y ≡ d → nat_cmp x y ≡ order (drop i a) (drop i b)
      go true e d g = let l : nat_cmp x y ≡ Less = simp e in l ∙ sym (rw (p.front, q.front) (order-from_be 8 x y (drop (i + 8) a) (drop (i + 8) b) (ltb-true x y e) q.small))
      go false e true g = absurd (n (eqb-true x y g))
      go false e false g =
          let above : y < x = omega (arith, ltb-false x y e, eqb-false x y g) in
          let less : order (drop i b) (drop i a) ≡ Less = rw (p.front, q.front) (order-from_be 8 y x (drop (i + 8) b) (drop (i + 8) a) above p.small) in
          let more : nat_cmp x y ≡ Greater = simp (e, g) in
          more ∙ sym (order_flip (drop i b) (drop i a) ∙ ap flip less)

  -- the same numbers leave the order to what stands behind them
  pub words-same : x ≡ y → order (drop i a) (drop i b) ≡ order (drop (i + 8) a) (drop (i + 8) b)
  words-same e = rw (p.front, q.front, e) (order-front (to_be 8 y) (drop (i + 8) a) (drop (i + 8) b))

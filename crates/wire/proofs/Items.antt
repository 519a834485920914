-- A loop that reads items off the front and hands the rest on.
use Prim.Native.Nat.{ℕ, zero, suc, ◌+◌, ◌-◌, ◌<◌}
use mathlib.Core.Path.{◌≡◌}
use mathlib.Core.List.{List, [], ◌∷◌, ◌++◌, append_assoc, append-nil}
use native.Mathlib.Nat.{add-zero, zero-add, add_assoc}
use native.Mathlib.Numerals.{sub-one}
use native.Mathlib.Omega.{arith}
use lib.ListN.{drop}
use Rattle.wire.specs.Read.{Read, done, refused, shift}
use Rattle.wire.specs.Format.{Format, items, read_items}

-- what is left, told after the items `pre`, which took `at` bytes
abbrev pub after : {E A : Type 0} → List A → ℕ → Read E (List A) → Read E (List A)
after pre at r = shift at (λ l. pre ++ l) r

after_none : {E A : Type 0} (r : Read E (List A)) → after [] 0 r ≡ r
after_none (done l n) = rw zero-add
after_none (refused e p) = rw zero-add

after_one : {E A : Type 0} (pre : List A) (at n : ℕ) (a : A) (r : Read E (List A)) → after pre at (shift n (λ l. a ∷ l) r) ≡ after (pre ++ a ∷ []) (at + n) r
after_one pre at n a (done l m) = rw (append_assoc, add_assoc)
after_one pre at n a (refused e p) = rw add_assoc

module _ {E : Type 0} {ends : E} {A : Type 0} (item : List A → Format E ends A) where
  pub items-start : (k : ℕ) (s : List ℕ) → after [] 0 (read_items item k [] s) ≡ (items item k).read s
  unfolding items
  items-start k s = after_none (read_items item k [] s)

  pub items-on : (k : ℕ) (pre seen : List A) (at : ℕ) (s : List ℕ) {a : A} {n : ℕ} → 0 < k → (item seen).read s ≡ done a n
      → after pre at (read_items item k seen s) ≡ after (pre ++ a ∷ []) (at + n) (read_items item (k - 1) (a ∷ seen) (drop n s))
  unfolding read_items
  items-on zero pre seen at s h e = absurd (omega arith)
  items-on (suc k) pre seen at s {a} {n} h e = rw (e, sub-one) (after_one pre at n a (read_items item k (a ∷ seen) (drop n s)))

  pub items_refused : (k : ℕ) (pre seen : List A) (at : ℕ) (s : List ℕ) {e : E} {p : ℕ} → 0 < k → (item seen).read s ≡ refused e p
      → after pre at (read_items item k seen s) ≡ refused e (at + p)
  unfolding read_items
  items_refused zero pre seen at s h e = absurd (omega arith)
  items_refused (suc k) pre seen at s h e = rw e

  pub items-end : (k : ℕ) (pre seen : List A) (at : ℕ) (s : List ℕ) → k ≡ 0 → after pre at (read_items item k seen s) ≡ done pre at
  unfolding read_items
  items-end k pre seen at s e = rw (e, append-nil, add-zero)

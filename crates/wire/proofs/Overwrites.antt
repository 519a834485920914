-- Bytes put into a buffer: what a store of one byte does at either end of them, and what callers of the stores cite.
use Prim.Native.Nat.{ℕ, suc, ◌+◌, ◌-◌, ◌<◌, ◌≤◌}
use mathlib.Core.Path.{◌≡◌, ap, ap₂, sym, ◌∙◌}
use mathlib.Core.List.{List, [], ◌∷◌, ◌++◌, append_assoc, append-nil}
use native.Mathlib.Nat.{add-zero, add_assoc}
use native.Mathlib.Omega.{arith}
use lib.ListN.{length, get_or, take, drop, set, length-append, length-drop, take-append-drop, get_or-append}
use lib.Seq.{drop-cons, drop-drop, drop-length, drop_at, take_at, take-suc, get_or-take, length-take-le, set_at}
use borrow.Author.Tests.{le-leb, lt-leb}
use borrow.Rule.Slice.PartMut.{put_mid, post_of, Post-is}
use Rattle.wire.specs.Store.{overwrite, stored, moved_back}

-- ---- what is put
pub overwrite-none : (at : ℕ) (d : List ℕ) → overwrite at [] d ≡ d
overwrite-none at d = rw add-zero (take-append-drop at d)

module _ (at : ℕ) (w d : List ℕ) (h : at + length w ≤ length d) where
  before-length : length (take at d ++ w) ≡ at + length w
  before-length = rw (length-append, length-take-le at d (omega arith))

  pub overwrite-length : length (overwrite at w d) ≡ length d
  overwrite-length = rw (← append_assoc, length-append, before-length, length-drop) (omega arith)

  -- what stands before its end, and behind it
  pub overwrite-take : take (at + length w) (overwrite at w d) ≡ take at d ++ w
  overwrite-take = rw (← append_assoc) (take_at (take at d ++ w) (drop (at + length w) d) (at + length w) before-length)

  pub overwrite-drop : drop (at + length w) (overwrite at w d) ≡ drop (at + length w) d
  overwrite-drop = rw (← append_assoc) (drop_at (take at d ++ w) (drop (at + length w) d) (at + length w) before-length)

  -- bytes before it are as they were
  pub overwrite-before : (i : ℕ) → i < at → get_or (overwrite at w d) i 0 ≡ get_or d i 0
  overwrite-before i k =
      let long : length (take at d) ≡ at = length-take-le at d (omega arith) in
      get_or-append (take at d) (w ++ drop (at + length w) d) 0 i (omega arith) ∙ get_or-take at d i 0 k

-- two pieces, one behind the other
pub overwrite-two : (at : ℕ) (u w d : List ℕ) → at + length u + length w ≤ length d → overwrite (at + length u) w (overwrite at u d) ≡ overwrite at (u ++ w) d
overwrite-two at u w d h =
    let room : at + length u ≤ length d = omega arith in
    let behind : drop (at + length u + length w) (overwrite at u d) ≡ drop (at + length (u ++ w)) d =
    sym (drop-drop (length w) (at + length u) (overwrite at u d)) ∙ ap (drop (length w)) (overwrite-drop at u d room) ∙ drop-drop (length w) (at + length u) d ∙ rw (length-append, add_assoc) in
    ap₂ (λ (x y : List ℕ). x ++ (w ++ y)) (overwrite-take at u d room) behind ∙ append_assoc (take at d) u (w ++ drop (at + length (u ++ w)) d)
    ∙ rw append_assoc

-- one byte more, behind
pub overwrite-last : (at : ℕ) (w d : List ℕ) (x : ℕ) → at + length w < length d → set (overwrite at w d) (at + length w) x ≡ overwrite at (w ++ x ∷ []) d
overwrite-last at w d x h =
    let n = at + length w in
    let size : length (take at d ++ w) ≡ n = before-length at w d (omega arith) in
    let end : at + length (w ++ x ∷ []) ≡ suc n = rw length-append (omega arith) in
    rw (← append_assoc, drop-cons d n 0 h, set_at (take at d ++ w) (get_or d n 0) (drop (suc n) d) x n size, end, append_assoc, append_assoc)

-- one byte more, in front
pub overwrite-first : (at : ℕ) (w d : List ℕ) (x : ℕ) → at + suc (length w) ≤ length d → set (overwrite (suc at) w d) at x ≡ overwrite at (x ∷ w) d
overwrite-first at w d x h =
    let size : length (take at d) ≡ at = length-take-le at d (omega arith) in
    let end : suc at + length w ≡ at + suc (length w) = omega arith in
    let R = w ++ drop (at + suc (length w)) d in
    rw (end, take-suc d at 0 (omega arith), append_assoc, set_at (take at d) (get_or d at 0) R x at size)

-- ---- what is stored
module _ (at : ℕ) (b d : List ℕ) where
  pub stored-fits : at + length b ≤ length d → stored at b d ≡ overwrite at b d
  unfolding stored
  stored-fits h = rw (le-leb (at + length b) (length d) h)

  pub stored-not : length d < at + length b → stored at b d ≡ d
  unfolding stored
  stored-not h = rw (lt-leb (at + length b) (length d) h)

module _ (n by : ℕ) (d : List ℕ) where
  pub moved-fits : by + n ≤ length d → moved_back n by d ≡ overwrite by (take n d) d
  unfolding moved_back
  moved-fits h = rw (le-leb (by + n) (length d) h)

  pub moved-not : length d < by + n → moved_back n by d ≡ d
  unfolding moved_back
  moved-not h = rw (lt-leb (by + n) (length d) h)

-- a slice to the end that was lent on, back in the whole
pub part-back : (n : ℕ) (t ys : List ℕ) → n ≤ length t → put_mid n (length t - n) t ys ≡ take n t ++ ys
part-back n t ys h =
    let none : post_of n (length t - n) t ≡ [] = Post-is n (length t) t h ∙ drop-length t in
    ap (λ (z : List ℕ). take n t ++ (ys ++ z)) none ∙ ap (λ (z : List ℕ). take n t ++ z) (append-nil ys)

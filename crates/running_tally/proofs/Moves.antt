-- Bytes moved to a place before theirs, the first on.
use Rattle.std.proofs.Common.{◌≡◌, ℕ, ◌+◌, ◌-◌, ◌<◌, ◌≤◌, List, length, get_or, take, drop, set, sym, ap, ◌∙◌, arith, length-drop, take-append-drop, length-take-le, get_or-drop, take_all, get_or-take, drop-drop}
use Rattle.wire.specs.Store.{overwrite}
use Rattle.wire.proofs.Overwrites.{overwrite-none, overwrite-drop}
use Rattle.wire.proofs.Stores.{copy-length, copy-on}

-- what stands at a place already
overwrite-same : (at n : ℕ) (t : List ℕ) → at + n ≤ length t → overwrite at (take n (drop at t)) t ≡ t
overwrite-same at n t h =
    let size : at + length (take n (drop at t)) ≡ at + n = ap (λ (j : ℕ). at + j) (length-take-le n (drop at t) (rw length-drop (omega arith))) in
    rw (size, ← drop-drop n at t, take-append-drop n (drop at t)) (take-append-drop at t)

-- i bytes are moved
pub record Copying (t : List ℕ) (from to n : ℕ) (out : List ℕ) (i : ℕ) : Type 0 where
  pub shape : out ≡ overwrite to (take i (take n (drop from t))) t
  pub less : i ≤ n

module _ (t : List ℕ) (from to n : ℕ) (h : to ≤ from) (k : from + n ≤ length t) where
  abbrev moved : List ℕ
  moved = take n (drop from t)

  size : length moved ≡ n
  size = length-take-le n (drop from t) (rw length-drop (omega arith))

  pub copying-start : Copying t from to n t 0
  copying-start = record { shape = sym (overwrite-none to t); less = omega arith }

  -- nothing moves
  pub copying-none : from ≡ to → t ≡ overwrite to moved t
  copying-none e = sym (ap (λ (j : ℕ). overwrite to (take n (drop j t)) t) e ∙ overwrite-same to n t (omega arith))

  module _ (out : List ℕ) (i : ℕ) (c : Copying t from to n out i) where
    pub copying-length : length out ≡ length t
    copying-length = copy-length to moved t out i (omega (arith, size)) c.shape (omega (arith, size, c.less))

    -- what a turn reads is still what stood there
    read : i < n → get_or out (from + i) 0 ≡ get_or moved i 0
    read l =
        let long : length (take i moved) ≡ i = length-take-le i moved (omega (arith, size)) in
        let place : to + i + (from - to) ≡ from + i = omega arith in
        let kept : drop (to + i) out ≡ drop (to + i) t = rw (← long) (ap (drop (to + length (take i moved))) c.shape ∙ overwrite-drop to (take i moved) t (omega (arith, long))) in
        rw (← place) (sym (get_or-drop (to + i) out (from - to) 0) ∙ ap (λ (x : List ℕ). get_or x (from - to) 0) kept ∙ get_or-drop (to + i) t (from - to) 0)
        ∙ ap (λ (j : ℕ). get_or t j 0) place ∙ sym (get_or-take n (drop from t) i 0 l ∙ get_or-drop from t i 0)

    pub copying-on : i < n → Copying t from to n (set out (to + i) (get_or out (from + i) 0)) (i + 1)
    copying-on l = record {
      shape = ap (set out (to + i)) (read l) ∙ copy-on to moved t out i (omega (arith, size)) c.shape (omega (arith, size));
      less = omega arith;
    }

    pub copying-end : n ≤ i → out ≡ overwrite to moved t
    copying-end l = c.shape ∙ ap (λ (x : List ℕ). overwrite to x t) (take_all i moved (omega (arith, size)))

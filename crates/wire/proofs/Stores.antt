-- The loops that store bytes: what holds at their start, in a turn, and at their end.
use Prim.Native.Nat.{ℕ, suc, ◌+◌, ◌-◌, ◌/◌, ◌%◌, ◌<◌, ◌≤◌}
use mathlib.Core.Path.{◌≡◌, ap, ap₂, sym, ◌∙◌}
use mathlib.Core.List.{List, [], ◌∷◌, ◌++◌, append_assoc, append-nil}
use native.Mathlib.Numerals.{add-one}
use native.Mathlib.Omega.{arith}
use lib.ListN.{length, get_or, take, drop, set, length-append, length-drop, drop_of_length-le}
use lib.Seq.{drop-cons, take-suc, take_all, get_or-take, length-take-le}
use Rattle.wire.specs.Bytes.{to_be, to_be-length}
use Rattle.wire.specs.Store.{overwrite, stored, moved_back}
use Rattle.wire.proofs.Overwrites.{overwrite-none, overwrite-length, overwrite-before, overwrite-last, overwrite-first, stored-fits, moved-fits}

-- ---- bytes copied, the first on
module _ (at : ℕ) (b d out : List ℕ) (i : ℕ) (room : at + length b ≤ length d) (h : out ≡ overwrite at (take i b) d) where
  pub copy-length : i ≤ length b → length out ≡ length d
  copy-length k =
      let size : length (take i b) ≡ i = length-take-le i b k in
      ap length h ∙ overwrite-length at (take i b) d (omega arith)

  pub copy-on : i < length b → set out (at + i) (get_or b i 0) ≡ overwrite at (take (i + 1) b) d
  copy-on k =
      let size : length (take i b) ≡ i = length-take-le i b (omega arith) in
      let place : at + i ≡ at + length (take i b) = ap (λ (n : ℕ). at + n) (sym size) in
      rw (add-one, take-suc b i 0 k, h, place) (overwrite-last at (take i b) d (get_or b i 0) (omega arith))

  pub copy-end : length b ≤ i → out ≡ stored at b d
  copy-end k = h ∙ rw (take_all i b k, stored-fits at b d room)

-- ---- a number, the last byte first: the bytes W are put, and x is left to be put in i bytes
pub record Spelling (at k v : ℕ) (d out : List ℕ) (x i : ℕ) : Type 0 where
  pub W : List ℕ
  pub shape : out ≡ overwrite (at + i) W d
  pub whole : to_be i x ++ W ≡ to_be k v
  pub less : i ≤ k

pub spelling-start : (at k v : ℕ) (d : List ℕ) → Spelling at k v d d v k
spelling-start at k v d = record { W = []; shape = sym (overwrite-none (at + k) d); whole = append-nil (to_be k v); less = omega arith }

module _ (at k v : ℕ) (d out : List ℕ) (x i : ℕ) (room : at + k ≤ length d) (p : Spelling at k v d out x i) where
  size : i + length p.W ≡ k
  size = omega (arith, ap length p.whole, length-append (to_be i x) p.W, to_be-length i x, to_be-length k v)

  pub spelling-length : length out ≡ length d
  spelling-length = ap length p.shape ∙ overwrite-length (at + i) p.W d (omega (arith, size))

  pub spelling-on : 0 < i → Spelling at k v d (set out (at + (i - 1)) (x % 256)) (x / 256) (i - 1)
  spelling-on h =
      let one : i ≡ suc (i - 1) = omega arith in
      let place : at + i ≡ suc (at + (i - 1)) = omega arith in
      record {
        W = x % 256 ∷ p.W;
        shape = ap (λ (l : List ℕ). set l (at + (i - 1)) (x % 256)) (p.shape ∙ ap (λ (n : ℕ). overwrite n p.W d) place)
            ∙ overwrite-first (at + (i - 1)) p.W d (x % 256) (omega (arith, size));
        whole = sym (append_assoc (to_be (i - 1) (x / 256)) (x % 256 ∷ []) p.W) ∙ ap (λ (n : ℕ). to_be n x ++ p.W) (sym one) ∙ p.whole;
        less = omega (arith, p.less);
      }

  pub spelling-end : i ≤ 0 → out ≡ stored at (to_be k v) d
  spelling-end h =
      let none : i ≡ 0 = omega arith in
      let place : at + i ≡ at = omega arith in
      let all : p.W ≡ to_be k v = ap (λ (n : ℕ). to_be n x ++ p.W) (sym none) ∙ p.whole in
      let fits : at + length (to_be k v) ≤ length d = rw to_be-length room in
      p.shape ∙ ap₂ (λ (n : ℕ) (l : List ℕ). overwrite n l d) place all ∙ sym (stored-fits at (to_be k v) d fits)

-- ---- bytes moved back, the last on
pub record Moving (n by : ℕ) (d s : List ℕ) (i : ℕ) : Type 0 where
  pub shape : s ≡ overwrite (i + by) (drop i (take n d)) d
  pub less : i ≤ n

module _ (n by : ℕ) (d : List ℕ) (room : by + n ≤ length d) where
  front : length (take n d) ≡ n
  front = length-take-le n d (omega arith)

  pub moving-start : Moving n by d d n
  moving-start = record { shape = rw (drop_of_length-le (take n d) {i = n} (omega (arith, front))) (sym (overwrite-none (n + by) d)); less = omega arith }

  module _ (s : List ℕ) (i : ℕ) (p : Moving n by d s i) where
    fits : i + by + length (drop i (take n d)) ≤ length d
    fits = omega (arith, length-drop i (take n d), front, p.less)

    pub moving-length : length s ≡ length d
    moving-length = ap length p.shape ∙ overwrite-length (i + by) (drop i (take n d)) d fits

    -- what a turn reads is still what stood there
    pub moving-read : 0 < i → get_or s (i - 1) 0 ≡ get_or d (i - 1) 0
    moving-read h = ap (λ (l : List ℕ). get_or l (i - 1) 0) p.shape ∙ overwrite-before (i + by) (drop i (take n d)) d fits (i - 1) (omega arith)

    pub moving-on : 0 < i → Moving n by d (set s (i - 1 + by) (get_or s (i - 1) 0)) (i - 1)
    moving-on h =
        let one : i ≡ suc (i - 1) = omega arith in
        let place : i + by ≡ suc (i - 1 + by) = omega arith in
        let byte : drop (i - 1) (take n d) ≡ get_or d (i - 1) 0 ∷ drop i (take n d) =
        drop-cons (take n d) (i - 1) 0 (omega (arith, front, p.less))
        ∙ ap₂ (λ (b m : ℕ). b ∷ drop m (take n d)) (get_or-take n d (i - 1) 0 (omega (arith, p.less))) (sym one) in
        record {
          shape = ap₂ (λ (l : List ℕ) (b : ℕ). set l (i - 1 + by) b) (p.shape ∙ ap (λ (m : ℕ). overwrite m (drop i (take n d)) d) place) (moving-read h)
              ∙ overwrite-first (i - 1 + by) (drop i (take n d)) d (get_or d (i - 1) 0) (omega (arith, fits))
              ∙ ap (λ (l : List ℕ). overwrite (i - 1 + by) l d) (sym byte);
          less = omega (arith, p.less);
        }

    pub moving-end : i ≤ 0 → s ≡ moved_back n by d
    moving-end h =
        let none : i ≡ 0 = omega arith in
        let place : i + by ≡ by = omega arith in
        p.shape ∙ ap₂ (λ (m j : ℕ). overwrite m (drop j (take n d)) d) place none ∙ sym (moved-fits n by d room)

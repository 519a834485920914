-- Entries of one or two bytes each, put from the first on.
use Prim.Native.Nat.{ℕ, ◌+◌, ◌*◌, ◌/◌, ◌%◌, ◌<◌, ◌≤◌}
use mathlib.Core.Path.{◌≡◌, ap, sym, ◌∙◌}
use mathlib.Core.List.{List, [], ◌∷◌, ◌++◌, append_assoc, append-nil}
use native.Mathlib.Nat.{mul-zero, mul-suc, mul-le-mul_left, add_comm}
use native.Mathlib.Numerals.{add-one}
use native.Mathlib.Omega.{arith}
use lib.ListN.{length, get_or, take, set, length-append}
use lib.Seq.{take-suc, take_all, length-take-le}
use Rattle.wire.specs.Bytes.{to_be, to_be-length}
use Rattle.wire.specs.Store.{overwrite, PutAt}
use Rattle.wire.specs.Format.{iso, run, encode_items}
use Rattle.wire.specs.Formats.{number}
use Rattle.wire.proofs.Overwrites.{overwrite-none, overwrite-length, overwrite-last}
use Rattle.mapblock.specs.Inventory.{BlockFormat}
use Rattle.mapblock.specs.Layout.{width}
use Rattle.mapblock.proofs.Entries.{width-old, width-new}
use Rattle.block_writer.specs.Pieces.{entry_bytes}

abbrev entry : ℕ → List ℕ → BlockFormat ℕ
entry w seen = number w

module _ (w : ℕ) where
  entries-size : (seen l : List ℕ) → length (encode_items (entry w) seen l) ≡ w * length l
  unfolding number iso run
  entries-size seen [] = sym (mul-zero w)
  entries-size seen (x ∷ l) = rw (length-append, to_be-length w x, entries-size (x ∷ seen) l, mul-suc, add_comm (w * length l) w)

  pub entries-length : (l : List ℕ) → length (entry_bytes w l) ≡ w * length l
  entries-length l = entries-size [] l

  entries-last : (seen l : List ℕ) (x : ℕ) → encode_items (entry w) seen (l ++ x ∷ []) ≡ encode_items (entry w) seen l ++ to_be w x
  unfolding number iso run
  entries-last seen [] x = append-nil (to_be w x)
  entries-last seen (y ∷ l) x = rw (entries-last (y ∷ seen) l x, append_assoc)

  -- one entry more
  entries-suc : (l : List ℕ) (i : ℕ) → i < length l → entry_bytes w (take (i + 1) l) ≡ entry_bytes w (take i l) ++ to_be w (get_or l i 0)
  entries-suc l i h = rw (add-one, take-suc l i 0 h) (entries-last [] (take i l) (get_or l i 0))

  part_length : (l : List ℕ) (i : ℕ) → i ≤ length l → length (entry_bytes w (take i l)) ≡ w * i
  part_length l i h = entries-length (take i l) ∙ rw (length-take-le i l h)

-- the first i entries are put
pub record Laying (w at : ℕ) (l d out : List ℕ) (i : ℕ) : Type 0 where
  pub shape : out ≡ overwrite at (entry_bytes w (take i l)) d
  pub less : i ≤ length l

module _ (w at : ℕ) (l d : List ℕ) where
  pub laying-start : Laying w at l d d 0
  laying-start = record { shape = sym (overwrite-none at d); less = omega arith }

  module _ (out : List ℕ) (i : ℕ) (p : Laying w at l d out i) where
    pub laying-length : at + length (entry_bytes w l) ≤ length d → length out ≡ length d
    laying-length room =
        let fewer : w * i ≤ w * length l = mul-le-mul_left w p.less in
        ap length p.shape ∙ overwrite-length at (entry_bytes w (take i l)) d (omega (arith, entries-length w l, part_length w l i p.less))

    pub laying-end : length l ≤ i → out ≡ overwrite at (entry_bytes w l) d
    laying-end h = p.shape ∙ rw (take_all i l h)

module _ (at : ℕ) (l d out : List ℕ) (i : ℕ) (h : i < length l) where
  pub narrow-on : at + length (entry_bytes 1 l) ≤ length d → Laying 1 at l d out i → Laying 1 at l d (set out (at + i) (get_or l i 0 % 256)) (i + 1)
  narrow-on room p =
      let W = entry_bytes 1 (take i l) in
      let place : at + i ≡ at + length W = omega (arith, part_length 1 l i p.less) in
      record {
        shape = rw (p.shape, place, entries-suc 1 l i h) (overwrite-last at W d (get_or l i 0 % 256) (omega (arith, entries-length 1 l)));
        less = omega arith;
      }

  pub wide-on : at + length (entry_bytes 2 l) ≤ length d → get_or l i 0 < 65536 → Laying 2 at l d out i
      → Laying 2 at l d (set (set out (at + 2 * i) (get_or l i 0 / 256)) (at + 2 * i + 1) (get_or l i 0 % 256)) (i + 1)
  wide-on room k p =
      let x = get_or l i 0 in
      let W = entry_bytes 2 (take i l) in
      let high : x / 256 % 256 ≡ x / 256 = omega arith in
      let first : at + 2 * i ≡ at + length W = omega (arith, part_length 2 l i p.less) in
      let second : at + 2 * i + 1 ≡ at + length (W ++ x / 256 ∷ []) = rw length-append (omega arith) in
      record {
        shape =
            rw (p.shape, second, first, overwrite-last at W d (x / 256) (omega (arith, entries-length 2 l)), entries-suc 2 l i h, high)
            (overwrite-last at (W ++ x / 256 ∷ []) d (x % 256) (omega (arith, entries-length 2 l)) ∙ ap (λ (b : List ℕ). overwrite at b d) (append_assoc W (x / 256 ∷ []) (x % 256 ∷ [])));
        less = omega arith;
      }

-- ---- as many bytes each as the version has
module _ (v at : ℕ) (l d a : List ℕ) where
  pub narrow-put : v < 24 → a ≡ overwrite at (entry_bytes 1 l) d → PutAt at (entry_bytes (width v) l) d a (at + length l)
  narrow-put h e = rw (width-old h) record { ends = omega (arith, entries-length 1 l); overwrites = e }

  pub wide-put : 24 ≤ v → a ≡ overwrite at (entry_bytes 2 l) d → PutAt at (entry_bytes (width v) l) d a (at + 2 * length l)
  wide-put h e = rw (width-new h) record { ends = omega (arith, entries-length 2 l); overwrites = e }

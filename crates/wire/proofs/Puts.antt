-- Bytes put into a buffer, one piece behind the other.
use Prim.Native.Nat.{ℕ, ◌+◌, ◌≤◌}
use mathlib.Core.Path.{◌≡◌, refl, sym, ◌∙◌}
use mathlib.Core.List.{List, [], ◌++◌}
use native.Mathlib.Nat.{add-zero, add_assoc}
use native.Mathlib.Omega.{arith}
use lib.ListN.{length, length-append}
use Rattle.wire.specs.Bytes.{to_be, to_be-length}
use Rattle.wire.specs.Store.{stored, PutAt}
use Rattle.wire.specs.Format.{iso, run}
use Rattle.wire.specs.Formats.{number}
use Rattle.wire.specs.Told.{short}
use Rattle.wire.proofs.Overwrites.{overwrite-none, overwrite-length, overwrite-two, stored-fits}

-- ---- one piece
pub put-nothing : (at : ℕ) (d : List ℕ) → PutAt at [] d d at
put-nothing at d = record { ends = sym (add-zero at); overwrites = sym (overwrite-none at d) }

module _ (at : ℕ) {d a : List ℕ} where
  -- a store that fits
  pub put-run : (b : List ℕ) → at + length b ≤ length d → a ≡ stored at b d → PutAt at b d a (at + length b)
  put-run b room e = record { ends = refl; overwrites = e ∙ stored-fits at b d room }

  pub put-number : (k v : ℕ) → at + k ≤ length d → a ≡ stored at ((number {ends = short} k).encode v) d → PutAt at (to_be k v) d a (at + k)
  unfolding number iso run
  put-number k v room e = record { ends = rw to_be-length; overwrites = e ∙ stored-fits at (to_be k v) d (rw to_be-length room) }

-- ---- two pieces, of which w is the second
-- room for both is room for the first
pub front-room : (at : ℕ) (u w : List ℕ) {n : ℕ} → at + length (u ++ w) ≤ n → at + length u ≤ n
front-room at u w room = omega (arith, length-append u w)

-- and, behind the first, for the second
pub put-room : {at m : ℕ} {u d a : List ℕ} (w : List ℕ) → at + length (u ++ w) ≤ length d → PutAt at u d a m → m + length w ≤ length a
put-room {at} {u = u} {d = d} w room p = rw (p.ends, p.overwrites, overwrite-length at u d (front-room at u w room)) (omega (arith, length-append u w))

pub put_two : {at m n : ℕ} {u w d a e : List ℕ} → at + length (u ++ w) ≤ length d → PutAt at u d a m → (m + length w ≤ length a → PutAt m w a e n) → PutAt at (u ++ w) d e n
put_two {at} {m} {u = u} {w = w} {d = d} room p f =
    let q = f (put-room w room p) in
    let seam : m + length w ≡ at + length (u ++ w) = rw (p.ends, length-append, add_assoc) in
    record {
      ends = q.ends ∙ seam;
      overwrites = q.overwrites ∙ rw (p.ends, p.overwrites) (overwrite-two at u w d (omega (arith, length-append u w)));
    }

-- How many bytes a read gives.
use Prim.Native.Nat.{ℕ, ◌+◌, ◌≤◌}
use mathlib.Core.Path.{◌≡◌, refl, ap, sym, ◌∙◌}
use mathlib.Core.List.{List, ◌++◌}
use native.Mathlib.Omega.{arith}
use lib.IntN.{ℤ}
use lib.ListN.{length, take, length-append, length-take}
use Rattle.std.proofs.lemmas.List.{take-append-le}
use Rattle.wire.specs.Bytes.{Bytes, bytes_take}
use Rattle.wire.specs.Read.{Read, done, refused}
use Rattle.wire.specs.Format.{◌⨾◌, iso, run, ends-in}
use Rattle.wire.specs.Formats.{number, signed}
use Rattle.wire.specs.Answer.{good}
use Rattle.wire.proofs.Answers.{no-good}
use Rattle.sheet.specs.Sheet.{Misframed}
use Rattle.sheetcount_lib.specs.Program.{record_head, block_length_of}
use Rattle.sheetcount_lib.proofs.Sheetcount.{unread}
use Rattle.sheetcount_lib.specs.Reading.{record_length}
use Rattle.std.specs.Prelude.{Result, Ok, Err, IfOk}

-- fewer than a number are fewer than a larger one
pub at-most : {E : Type 0} {k m : ℕ} (r : Result ℕ E) → k ≤ m → IfOk r (λ n. n ≤ k) → IfOk r (λ n. n ≤ m)
at-most (Ok n) l h = omega arith
at-most (Err e) l h = tt

-- what was read to the front of a buffer are bytes
pub bytes-read : {n : ℕ} (a b : List ℕ) → n ≤ length a → Bytes a → Bytes (take n (a ++ b))
bytes-read {n} a b h k = rw (take-append-le n a b h) (bytes_take n a k)

-- ---- a record's first twelve bytes
head-length : (h : ℤ × ℕ) → length (record_head.encode h) ≡ 12
unfolding record_head ◌⨾◌ signed number iso run
head-length h = simp length-append

-- they are there where they tell a length
twelve : (s : List ℕ) {n : ℕ} → Bytes s → block_length_of 0 s ≡ good n → 12 ≤ length s
twelve s b h = go (record_head.read s) refl
  where
    go : (x : Read Misframed (ℤ × ℕ)) → record_head.read s ≡ x → 12 ≤ length s
    go (refused e p) g = no-good (sym (unread 0 s g) ∙ h)
    go (done a m) g =
        let t = record_head.backward s a m b g in
        omega (arith, ends-in record_head g, t.ends, head-length a)

module _ (s : List ℕ) (head size : ℕ) (short : head ≤ 12) (b : Bytes (take head s)) (h : block_length_of 0 (take head s) ≡ good size) where
  all-twelve : take head s ≡ take 12 s
  all-twelve =
      let z = twelve (take head s) b h in
      let same : head ≡ 12 = omega (arith, z, length-take head s) in
      ap (λ (n : ℕ). take n s) same

  -- with them no more than the block is read
  pub record-within : (t : List ℕ) {E : Type 0} (r : Result ℕ E) → take 12 t ≡ take 12 s → IfOk r (λ n. n ≤ 12 + size) → IfOk r (λ n. n ≤ record_length (take 12 t))
  record-within t (Ok n) k w =
      let z : block_length_of 0 (take 12 t) ≡ good size = ap (block_length_of 0) (k ∙ sym all-twelve) ∙ h in
      rw z w
  record-within t (Err e) k w = tt

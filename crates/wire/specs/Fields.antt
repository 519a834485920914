-- What holds of each type of number that stands in a field.
use Rattle.std.specs.Prelude.{ℕ, ◌+◌, ◌^◌, ◌≤◌, ◌≡◌, refl, List}
use Rattle.wire.specs.Bytes.{to_be}
use Rattle.wire.specs.Read.{Read, done, refused, map_read}
use Rattle.wire.specs.Format.{iso, run}
use Rattle.wire.specs.Formats.{number, signed, signed_of, unsigned_of}
use Rattle.wire.specs.Told.{Short, short}

-- a number is read from k bytes, one at least and eight at most, by its bits, and written by them
pub record IsField {A : Type 0} (k : ℕ) (read : List ℕ → Read Short A) (encode : A → List ℕ) (of_bits : ℕ → A) (bits_of : A → ℕ) : Type 0 where
  pub least : 1 ≤ k
  pub most : k ≤ 8
  pub reads : (s : List ℕ) → read s ≡ map_read of_bits ((number {ends = short} k).read s)
  pub encodes : (a : A) → encode a ≡ to_be k (bits_of a)

map_same : {E A : Type 0} (r : Read E A) → r ≡ map_read (λ a. a) r
map_same (done a n) = refl
map_same (refused e p) = refl

pub unsigned_field : (k : ℕ) → 1 ≤ k → k ≤ 8 → IsField k (number {ends = short} k).read (number {ends = short} k).encode (λ n. n) (λ n. n)
unfolding number iso run
unsigned_field k l m = record { least = l; most = m; reads = λ s. map_same ((number {ends = short} k).read s); encodes = λ a. refl }

pub signed_field : (k half : ℕ) (e : 256 ^ k ≡ half + half) → 1 ≤ k → k ≤ 8
    → IsField k (signed {ends = short} k half e).read (signed {ends = short} k half e).encode (signed_of half) (unsigned_of half)
unfolding signed number iso run
signed_field k half e l m = record { least = l; most = m; reads = λ s. refl; encodes = λ a. refl }

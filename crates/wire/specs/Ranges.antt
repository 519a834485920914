-- Ranges of bytes, told by start and length: document 01, 'Reading, looking, writing', "comes back as a part of the caller's block".
use Rattle.std.specs.Prelude.{ℕ, ◌<◌, min, ◌≡◌, List, length, take, drop}
use Rattle.std.specs.Borrow.{Bor}
use Rattle.wire.specs.Answer.{Answer, good, refusal}
use Rattle.wire.specs.Places.{place_in}
use Rattle.wire.specs.declared.ranges.Range.{Range}

-- a place that the machine can hold
abbrev pub InReach : ℕ → Type 0
InReach n = n < 18446744073709551616

abbrev pub range_at : ℕ → ℕ → Range
range_at start n = record { start = start; length = n }

-- of a run that is not there
abbrev pub no_range : Range
no_range = range_at 0 0

-- the range that an answer tells; none when refused
abbrev pub range_told : {A : Type 0} → (A → Range) → Answer A → Range
range_told which (good a) = which a
range_told which (refusal n r o) = no_range

-- the bytes of a range
abbrev pub bytes_in : List ℕ → Range → List ℕ
bytes_in s p = take p.length (drop p.start s)

-- where a range of s lies; one that starts past the end lies at the end
abbrev pub range_place : Bor (List ℕ) → Range → ℕ × ℕ
range_place s p = place_in s (min p.start (length s.now))

-- r is the slice of s at the range p: it has the range's bytes, and lies where the range lies
pub record IsSlice (s : Bor (List ℕ)) (p : Range) (r : Bor (List ℕ)) : Type 0 where
  pub bytes : r.now ≡ bytes_in s.now p
  pub place : r.ref_ptr ≡ range_place s p

-- Where a slice of a caller's bytes lies: document 01, 'Reading, looking, writing', "comes back as a part of the caller's block" and "as the very
-- bytes in the caller's block". The pointer of a reference is an allocation and an offset in it.
use Rattle.std.specs.Prelude.{ℕ, ◌+◌, List}
use Rattle.std.specs.Borrow.{Bor}
use Rattle.wire.specs.Answer.{Answer, good, refusal}

-- the place n bytes behind the first byte of s
abbrev pub place_in : Bor (List ℕ) → ℕ → ℕ × ℕ
place_in s n = (s.ref_ptr.0, s.ref_ptr.1 + n)

-- how far behind the first byte the slice that an answer tells starts; when refused, at the first byte
abbrev pub start_told : {A : Type 0} → (A → ℕ) → Answer A → ℕ
start_told start (good a) = start a
start_told start (refusal n r o) = 0

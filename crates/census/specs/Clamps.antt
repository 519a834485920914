-- Where a block's sixteen node coordinates on an axis stand to a number.
use Rattle.std.specs.Prelude.{ℕ, min, ℤ, pos, negsuc, ◌+ℤ◌, ◌-ℤ◌, ◌*ℤ◌}

-- held to 0..16
abbrev pub clamp_of : ℤ → ℕ
clamp_of (pos n) = min n 16
clamp_of (negsuc n) = 0

-- how many of the sixteen node coordinates of a block are below v
abbrev pub below_of : ℤ → ℤ → ℕ
below_of v b = clamp_of (v -ℤ b *ℤ pos 16)

-- how many are not above it
abbrev pub upto_of : ℤ → ℤ → ℕ
upto_of v b = clamp_of (v -ℤ b *ℤ pos 16 +ℤ pos 1)

-- A lot clipped to a block, for document 01's "six inclusive node coordinates": from which of the sixteen steps on each axis up to which it goes.
use Rattle.std.specs.Prelude.{ℕ, ◌/◌, ◌%◌, Bool, ◌&&◌, nat_le, nat_lt}
use Rattle.census.specs.declared.clip.Clip.{Clip}
use Rattle.census.specs.Counters.{is_at}

-- a ≤ v < b
unfoldable pub in_interval : ℕ → ℕ → ℕ → Bool
in_interval a v b = nat_le a v && nat_lt v b

-- the index lies in the clip
abbrev pub in_clip : Clip → ℕ → Bool
in_clip b i = in_interval b.x0 (i % 16) b.x1 && (in_interval b.y0 (i / 16 % 16) b.y1 && in_interval b.z0 (i / 256) b.z1)

-- and the node there has the content id k
abbrev pub clip_with : Clip → (ℕ → ℕ) → ℕ → ℕ → Bool
clip_with b ids k i = in_clip b i && is_at ids k i

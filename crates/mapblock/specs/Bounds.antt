-- Bounds on the content ids of 4,096 pairs of bytes, found in 128 columns.
use Rattle.std.specs.Prelude.{ℕ, ◌+◌, ◌*◌, ◌%◌, ◌<◌, ◌≤◌, ◌≡◌, List, length, get_or}

-- of so many pairs of bytes, none has a byte above a number at a place, 0 or 1
abbrev pub NoneAbove : ℕ → List ℕ → ℕ → ℕ → Type 0
NoneAbove n s first most = (i : ℕ) → i < n → get_or s (2 * i + first) 0 ≤ most

-- columns raised to the row of bytes at a place, as far as column n
pub record Raised (s : List ℕ) (at n : ℕ) (old new : List ℕ) : Type 0 where
  pub long : length new ≡ 128
  pub above : (j : ℕ) → get_or old j 0 ≤ get_or new j 0
  pub reaches : (j : ℕ) → j < n → get_or s (at + j) 0 ≤ get_or new j 0

-- columns that no byte before a place is above, each in its column
pub record Reached (s : List ℕ) (at : ℕ) (columns : List ℕ) : Type 0 where
  pub long : length columns ≡ 128
  pub reaches : (i : ℕ) → i < at → get_or s i 0 ≤ get_or columns (i % 128) 0

-- no pair of bytes is above a bound, as a number
abbrev pub IdsWithin : List ℕ → ℕ → Type 0
IdsWithin s bound = (i : ℕ) → i < 4096 → get_or s (2 * i) 0 * 256 + get_or s (2 * i + 1) 0 ≤ bound

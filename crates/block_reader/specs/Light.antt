-- The light count: document 01, 'Reading, looking, writing'. How many of the low twelve lighting bits are zero.
use Rattle.std.specs.Prelude.{ℕ, zero, suc, ◌+◌, ◌/◌, ◌%◌, eqb}
use Rattle.wire.specs.Choice.{bit}

-- the zeros among the low k bits
unfoldable pub zeros : ℕ → ℕ → ℕ
zeros zero n = 0
zeros (suc k) n = bit (eqb (n % 2) 0) + zeros k (n / 2)

abbrev pub light_count : ℕ → ℕ
light_count lighting = zeros 12 lighting

-- The Python of source document 000 that splits a key, `get_integer_as_block`: document 01, 'Position keys'.
use Rattle.std.specs.Prelude.{ℕ, suc, ◌-◌, ◌*◌, ◌/◌, ◌%◌, cond, ltb, ℤ, pos, negsuc, neg_ℤ, ◌-ℤ◌}
use Rattle.position.specs.declared.key.Coordinates.{Coordinates}

-- i % m, which is 0..m-1 of a negative number too
unfoldable pub modulo : ℤ → ℕ → ℕ
modulo (pos n) m = n % m
modulo (negsuc n) m = m - suc (n % m)

-- int(i / m), which rounds toward zero
unfoldable pub quotient : ℤ → ℕ → ℤ
quotient (pos n) m = pos (n / m)
quotient (negsuc n) m = neg_ℤ (pos (suc n / m))

unfoldable pub unsigned_to_signed : ℕ → ℕ → ℤ
unsigned_to_signed i most = cond (ltb i most) (pos i) (pos i -ℤ pos (2 * most))

-- its two lines, which stand there for x and again for y: the coordinate, and what is left of i
abbrev pub coordinate : ℤ → ℤ
coordinate i = unsigned_to_signed (modulo i 4096) 2048

abbrev pub left : ℤ → ℤ
left i = quotient (i -ℤ coordinate i) 4096

abbrev pub get_integer_as_block : ℤ → Coordinates
get_integer_as_block i = record { x = coordinate i; y = coordinate (left i); z = coordinate (left (left i)) }

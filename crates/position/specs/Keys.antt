-- Position keys: document 01, 'Position keys'.
use Rattle.std.specs.Prelude.{ℕ, ◌-◌, ◌/◌, ◌%◌, ◌^◌, Bool, cond, ◌&&◌, Option, Some, None, ℤ, pos, negsuc, nat_abs, ◌+ℤ◌, ◌-ℤ◌, ◌*ℤ◌}
use Rattle.std.specs.Int.Signed.{le_z}
use Rattle.wire.specs.Answer.{Answer, good, plain, out_of_range}
use Rattle.position.specs.declared.key.Coordinates.{Coordinates}

-- a ≤ c ≤ b
unfoldable pub between : ℤ → ℤ → ℤ → Bool
between a c b = le_z a c && le_z c b

-- ---- joining
-- each coordinate is -2048..2047
abbrev pub inside : ℤ → Bool
inside c = between (negsuc 2047) c (pos 2047)

abbrev pub all_inside : ℤ → ℤ → ℤ → Bool
all_inside x y z = inside x && (inside y && inside z)

-- z·16,777,216 + y·4,096 + x
unfoldable pub key_of : ℤ → ℤ → ℤ → ℤ
key_of x y z = z *ℤ pos 16_777_216 +ℤ y *ℤ pos 4_096 +ℤ x

unfoldable pub join_of : ℤ → ℤ → ℤ → Answer ℤ
join_of x y z = cond (all_inside x y z) (good (key_of x y z)) (plain out_of_range)

-- ---- splitting
-- a key with 34,368,129,024 added
unfoldable pub moved : ℤ → ℤ
moved k = k +ℤ pos 34_368_129_024

-- valid exactly when the sum is 0..2^36-1
unfoldable pub is_key : ℤ → Bool
is_key k = between (pos 0) (moved k) (pos (2 ^ 36 - 1))

-- a field less 2048
unfoldable pub lowered : ℕ → ℤ
lowered n = pos n -ℤ pos 2048

-- the three twelve-bit fields, lowest first
abbrev pub fields : ℕ → Coordinates
fields s = record { x = lowered (s % 4_096); y = lowered (s / 4_096 % 4_096); z = lowered (s / 16_777_216) }

unfoldable pub split_of : ℤ → Answer Coordinates
split_of k = cond (is_key k) (good (fields (nat_abs (moved k)))) (plain out_of_range)

-- ---- what the code's answers say
abbrev pub told_join : Option ℤ → Answer ℤ
told_join (Some k) = good k
told_join None = plain out_of_range

abbrev pub told_split : Option Coordinates → Answer Coordinates
told_split (Some c) = good c
told_split None = plain out_of_range

-- What a call comes back with: document 01, 'The numbers a call comes back with'.
use Rattle.std.specs.Prelude.{ℕ, ◌≡◌, List, [], ◌∷◌, ◌++◌, Bool, true, false, cond, ◌||◌, leb, eqb, length, drop}
use Rattle.std.proofs.Math.Option.{Option, some, none}

-- Done, with what the call gives; or refused, with the number, the record and the offset. The record is 0 but for sheets, and the offset
-- is 0 but for the block's numbers (`block_numbers` of mapblock).
pub data Answer (A : Type 0) : Type 0 where
  good : A → Answer A
  refusal : ℕ → ℕ → ℕ → Answer A

-- a refusal that has neither record nor offset
abbrev pub plain : {A : Type 0} → ℕ → Answer A
plain n = refusal n 0 0

-- what comes of a value that is there; where none is, the number
abbrev pub some_or : {R A : Type 0} → ℕ → Option R → (R → Answer A) → Answer A
some_or n none f = plain n
some_or n (some r) f = f r

abbrev pub map_answer : {A B : Type 0} → (A → B) → Answer A → Answer B
map_answer f (good a) = good (f a)
map_answer f (refusal n r o) = refusal n r o

-- what follows a good answer
abbrev pub then_answer : {A B : Type 0} → Answer A → (A → Answer B) → Answer B
then_answer (good a) f = f a
then_answer (refusal n r o) f = refusal n r o

-- bytes of what was answered; none when refused
abbrev pub bytes_of : {A : Type 0} → (A → List ℕ) → Answer A → List ℕ
bytes_of bytes (good a) = bytes a
bytes_of bytes (refusal n r o) = []

-- What a lent buffer holds after a call: on 0 the result over the front of what was there, on a refusal what was there.
abbrev pub lent : {A : Type 0} → Answer (List A) → List A → List A
lent (good r) before = r ++ drop (length r) before
lent (refusal n r o) before = before

-- what a call answers that puts x into a lent buffer, and what the buffer then holds
abbrev pub Answered : Answer ℕ → List ℕ → List ℕ → Answer (List ℕ) → Type 0
Answered a before after x = (a ≡ map_answer length x) × (after ≡ lent x before)

-- An answer of the code, with what it gives in the code's own terms, and that of the definitions: both are good and what they give is related,
-- or both are the same refusal.
abbrev pub Matches : {A B : Type 0} → (A → B → Type 0) → Answer A → Answer B → Type 0
Matches {B = B} R (good a) b = (x : B) × (b ≡ good x) × R a x
Matches R (refusal n r o) b = b ≡ refusal n r o

-- ---- the numbers of a call
-- a number is one of these
abbrev pub is_one_of : ℕ → List ℕ → Bool
is_one_of n [] = false
is_one_of n (m ∷ l) = eqb n m || is_one_of n l

-- an answer that is refused, if at all, with one of these numbers
abbrev pub RefusedWith : {A : Type 0} → List ℕ → Answer A → Type 0
RefusedWith numbers (good a) = Unit {0}
RefusedWith numbers (refusal n r o) = is_one_of n numbers ≡ true

-- ---- the table
abbrev pub ends_inside : ℕ  -- bytes end inside a field, or an inventory has no end line
ends_inside = 1

abbrev pub version_outside : ℕ  -- version outside 22..29
version_outside = 2

abbrev pub position_above : ℕ  -- position above 4095
position_above = 4

abbrev pub position_twice : ℕ  -- position already in its list
position_twice = 5

abbrev pub id_twice : ℕ  -- id already mapped
id_twice = 6

abbrev pub bytes_after : ℕ  -- bytes after the end
bytes_after = 7

abbrev pub id_unmapped : ℕ  -- used id unmapped
id_unmapped = 8

abbrev pub out_of_range : ℕ  -- key or coordinate out of range
out_of_range = 9

abbrev pub bad_part : ℕ  -- lot out of the world or turned round; span turned round
bad_part = 10

abbrev pub no_room : ℕ  -- result longer than the output lent
no_room = 11

abbrev pub parts_misfit : ℕ  -- parts do not fit
parts_misfit = 12

abbrev pub tally_malformed : ℕ  -- tally malformed
tally_malformed = 13

abbrev pub too_many : ℕ  -- a count or a total above 2^64-1, or more than 2^32-1 rows
too_many = 14

abbrev pub sheet_malformed : ℕ  -- sheet mark, version, framing, or keys not rising
sheet_malformed = 15

abbrev pub no_such : ℕ  -- no such row or node
no_such = 16

-- 31 to 38: a field that is fixed has another value (document 02, item 2)
abbrev pub content_width_differs : ℕ
content_width_differs = 31

abbrev pub params_width_differs : ℕ
params_width_differs = 32

abbrev pub metadata_version_differs : ℕ  -- of the list, a u16 in version 22 and then a u8
metadata_version_differs = 33

abbrev pub private_byte_differs : ℕ  -- of a variable
private_byte_differs = 34

abbrev pub timer_byte_differs : ℕ  -- the byte behind the metadata in versions 23 and 24
timer_byte_differs = 35

abbrev pub object_version_differs : ℕ  -- of the static objects
object_version_differs = 36

abbrev pub mapping_version_differs : ℕ
mapping_version_differs = 37

abbrev pub timer_row_length_differs : ℕ
timer_row_length_differs = 38

abbrev pub rates_malformed : ℕ  -- rate sheet malformed (document 02, item 4)
rates_malformed = 40

-- ---- the bytes where they fit, else 11
abbrev pub in_room : ℕ → List ℕ → Answer (List ℕ)
in_room room x = cond (leb (length x) room) (good x) (plain no_room)

-- The number of each fault: document 01, 'The numbers a call comes back with', with document 02's item 2. Given here alone.
use Rattle.std.specs.Prelude.{ℕ, List, [], ◌∷◌}
use Rattle.wire.specs.Read.{Read, done, refused}
use Rattle.wire.specs.Answer.{Answer, good, refusal, ends_inside, version_outside, position_above, position_twice, id_twice, bytes_after, id_unmapped, content_width_differs, params_width_differs, metadata_version_differs, private_byte_differs, timer_byte_differs, object_version_differs, mapping_version_differs, timer_row_length_differs}
use Rattle.mapblock.specs.declared.fault.Fault.{Fault}
use Rattle.mapblock.specs.declared.fault.Fault.TheVariants as fault

abbrev pub refusal_number : Fault → ℕ
refusal_number fault.Ends = ends_inside
refusal_number fault.Version = version_outside
refusal_number fault.ContentWidth = content_width_differs
refusal_number fault.ParamsWidth = params_width_differs
refusal_number fault.MetadataVersion = metadata_version_differs
refusal_number fault.PrivateByte = private_byte_differs
refusal_number fault.ByteOf23 = timer_byte_differs
refusal_number fault.TimerByte = timer_byte_differs
refusal_number fault.ObjectVersion = object_version_differs
refusal_number fault.MappingVersion = mapping_version_differs
refusal_number fault.TimerRowLength = timer_row_length_differs
refusal_number fault.PositionAbove = position_above
refusal_number fault.PositionTwice = position_twice
refusal_number fault.IdTwice = id_twice
refusal_number fault.BytesAfter = bytes_after
refusal_number fault.IdUnmapped = id_unmapped

-- The block's numbers: those that a block, or a row of one, is refused with. They alone have an offset. Where document 01 or a request says "1 to 8"
-- of a block, these are meant.
abbrev pub block_numbers : List ℕ
block_numbers =
    ends_inside ∷ version_outside ∷ position_above ∷ position_twice ∷ id_twice ∷ bytes_after ∷ id_unmapped
    ∷ content_width_differs ∷ params_width_differs ∷ metadata_version_differs ∷ private_byte_differs ∷ timer_byte_differs ∷ object_version_differs ∷ mapping_version_differs ∷ timer_row_length_differs
    ∷ []

-- what a reading answers: the value and its length, or the fault's number at its place
abbrev pub answer_of : {A : Type 0} → Read Fault A → Answer (A × ℕ)
answer_of (done a n) = good (a, n)
answer_of (refused f p) = refusal (refusal_number f) 0 p

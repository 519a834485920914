-- The writer: document 01, 'Order': "Writer: 2, 12, then what the reader would say of the bytes, then 11."
use Rattle.std.specs.Prelude.{ℕ, cond, List, [], ◌∷◌, Ok, Err, Result}
use Rattle.std.proofs.Math.Option.{Option, some, none}
use Rattle.wire.specs.Read.{Read, done, refused}
use Rattle.wire.specs.Answer.{Answer, good, refusal, plain, in_room, version_outside, position_above, position_twice, id_twice, id_unmapped, no_room, parts_misfit, private_byte_differs, timer_byte_differs}
use Rattle.mapblock.specs.Data.{Block}
use Rattle.mapblock.specs.Layout.{all, is_version}
use Rattle.mapblock.specs.Block.{block, verdict}
use Rattle.mapblock.specs.Numbers.{refusal_number}
use Rattle.mapblock.specs.declared.fault.Fault.{Fault}
use Rattle.block_writer.specs.BlockParts.{BlockParts, block_made}
use Rattle.block_reader.specs.declared.read.ReadError.{ReadError}
use Rattle.block_reader.specs.declared.read.ReadError.TheVariants as read_errors
use Rattle.block_writer.specs.declared.write.WriteError.{WriteError}
use Rattle.block_writer.specs.declared.write.WriteError.TheVariants as write_errors

-- The numbers of values that parts which fit may have: a position, an id or a private byte in a row, and the timer byte of version 24.
abbrev pub value_numbers : List ℕ
value_numbers = position_above ∷ position_twice ∷ id_twice ∷ private_byte_differs ∷ timer_byte_differs ∷ []

-- The numbers of the writer. Of the reader's they are those of values and 8: all else that the reader judges is in the bytes as the layout has
-- it, or was told by 2 or 12.
abbrev pub writer_numbers : List ℕ
writer_numbers = version_outside ∷ parts_misfit ∷ no_room ∷ id_unmapped ∷ value_numbers

-- what the reader says of the bytes, then 11
abbrev pub judged_bytes : ℕ → List ℕ → Read Fault Block → Answer (List ℕ)
judged_bytes room bytes (refused f p) = refusal (refusal_number f) 0 p
judged_bytes room bytes (done b n) = in_room room bytes

-- 12, then the reader's verdict on the bytes of the block
abbrev pub written_block : ℕ → Option Block → Answer (List ℕ)
written_block room none = plain parts_misfit
written_block room (some b) = judged_bytes room ((block all).encode b) (verdict all ((block all).encode b))

-- the bytes written into a room, or the refusal
unfoldable pub write_of : BlockParts → ℕ → Answer (List ℕ)
write_of p room = cond (is_version p.head.version) (written_block room (block_made p)) (plain version_outside)

-- what the writer answers where the reader would refuse the bytes, or the parts do not fit
abbrev pub write_error : ReadError → WriteError
write_error read_errors.Misfit = write_errors.Misfit
write_error (read_errors.Refused w) = write_errors.Refused w

-- what the code's answer says: the length of what was written
abbrev pub told_write : Result ℕ WriteError → Answer ℕ
told_write (Ok n) = good n
told_write (Err write_errors.Misfit) = plain parts_misfit
told_write (Err (write_errors.Refused w)) = refusal (refusal_number w.fault) 0 w.offset
told_write (Err write_errors.NoRoom) = plain no_room

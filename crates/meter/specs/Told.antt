-- What the code's answers say: document 01, 'The numbers a call comes back with'.
use Rattle.std.specs.Prelude.{ℕ, List, [], ◌∷◌, length}
use Rattle.wire.specs.Answer.{Answer, good, refusal, plain, out_of_range, bad_part, no_room, Answered}
use Rattle.position.specs.declared.key.Coordinates.{Coordinates}
use Rattle.mapblock.specs.Data.{Block}
use Rattle.mapblock.specs.Numbers.{refusal_number}
use Rattle.position.specs.declared.part.Part.{Part}
use Rattle.meter.specs.Standing.{nodes_in}
use Rattle.meter.specs.Counting.{tally_of, by_one}
use Rattle.sheet.specs.Placed.{placed}
use Rattle.meter.specs.Tallying.{fitted}
use Rattle.std.specs.Prelude.{Ok, Err, Result}
use Rattle.meter.specs.declared.block_tally.BlockError.{BlockError}
use Rattle.meter.specs.declared.block_tally.BlockError.TheVariants as block_errors

abbrev pub told_block : Result ℕ BlockError → Answer ℕ
told_block (Ok n) = good n
told_block (Err block_errors.BadPart) = plain bad_part
told_block (Err block_errors.OutOfRange) = plain out_of_range
told_block (Err (block_errors.Refused w)) = refusal (refusal_number w.fault) 0 w.offset
told_block (Err block_errors.NoRoom) = plain no_room

-- the tally of what stands of b in the part, put into a buffer where it fits
abbrev pub PutAs : Part → Coordinates → Block → List ℕ → List ℕ → Result ℕ BlockError → Type 0
PutAs p at b before after r = Answered (told_block r) before after (fitted by_one (length before) (tally_of by_one (nodes_in p (placed at b ∷ []))))

-- The number of each fault is one of the block's numbers.
use mathlib.Core.Path.{◌≡◌, refl}
use mathlib.Core.Bool.{true}
use Rattle.wire.specs.Answer.{is_one_of}
use Rattle.mapblock.specs.Numbers.{refusal_number, block_numbers}
use Rattle.mapblock.specs.declared.fault.Fault.{Fault}
use Rattle.mapblock.specs.declared.fault.Fault.TheVariants as fault

pub fault-number : (f : Fault) → is_one_of (refusal_number f) block_numbers ≡ true
fault-number fault.Ends = refl
fault-number fault.Version = refl
fault-number fault.ContentWidth = refl
fault-number fault.ParamsWidth = refl
fault-number fault.MetadataVersion = refl
fault-number fault.PrivateByte = refl
fault-number fault.ByteOf23 = refl
fault-number fault.TimerByte = refl
fault-number fault.ObjectVersion = refl
fault-number fault.MappingVersion = refl
fault-number fault.TimerRowLength = refl
fault-number fault.PositionAbove = refl
fault-number fault.PositionTwice = refl
fault-number fault.IdTwice = refl
fault-number fault.BytesAfter = refl
fault-number fault.IdUnmapped = refl

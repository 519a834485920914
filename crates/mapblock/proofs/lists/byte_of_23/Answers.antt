use Rattle.mapblock.proofs.TaggedLists.{byte-refused, byte-other, byte-zero}
use Rattle.mapblock.proofs.Leaves.{by_number}
use Rattle.wire.specs.Told.{told_number}
use Rattle.mapblock.proofs.Refusals.{none_becomes}
use Rattle.mapblock.proofs.lists.byte_of_23.Goals as goal

pub returns-in_err-byte : goal.returns-in_err-byte
returns-in_err-byte c =
    let none = c.in_err-byte.ensures in
    rw (none_becomes _ c.from_residual.ensures.1 none.value none.ok_part c.ends.ensures) (byte-refused _ (by_number 1 _ (told_number 1) c.number_at.ensures none.ok_part))

pub returns-then-byte-ne0 : goal.returns-then-byte-ne0
returns-then-byte-ne0 c =
    let byte = by_number 1 _ (told_number 1) c.number_at.ensures c.in_ok-byte.ensures.ok_part in
    rw c.from.ensures (byte-other _ byte c.if-byte-ne0.true)

pub returns : goal.returns
returns c =
    let byte = by_number 1 _ (told_number 1) c.number_at.ensures c.in_ok-byte.ensures.ok_part in
    byte-zero _ byte c.if-byte-ne0.false

use native.Mathlib.Omega.{arith}
use mathlib.Core.Path.{◌∙◌}
use Rattle.mapblock.proofs.TaggedLists.{early-refused, early-above, early-none, early-some}
use Rattle.mapblock.proofs.Leaves.{by_number}
use Rattle.wire.specs.Told.{told_number}
use Rattle.mapblock.proofs.Refusals.{none_becomes}
use Rattle.mapblock.proofs.lists.timers_of_24.Goals as goal

pub returns-in_err-byte : goal.returns-in_err-byte
returns-in_err-byte c =
    let none = c.in_err-byte.ensures in
    rw (none_becomes _ c.from_residual.ensures.1 none.value none.ok_part c.ends.ensures) (early-refused _ (by_number 1 _ (told_number 1) c.number_at.ensures none.ok_part))

pub returns-in-0 : goal.returns-in-0
returns-in-0 c =
    let byte = by_number 1 _ (told_number 1) c.number_at.ensures c.in_ok-byte.ensures.ok_part in
    early-none _ byte c.in-0.is

pub returns-in-1 : goal.returns-in-1
returns-in-1 c =
    let byte = by_number 1 _ (told_number 1) c.number_at.ensures c.in_ok-byte.ensures.ok_part in
    c.list_behind.ensures ∙ early-some _ byte c.in-1.is

pub returns-in_default : goal.returns-in_default
returns-in_default c =
    let byte = by_number 1 _ (told_number 1) c.number_at.ensures c.in_ok-byte.ensures.ok_part in
    rw c.from.ensures (early-above _ byte (omega arith))

use mathlib.Core.Path.{refl}
use native.Mathlib.Omega.{arith}
use Rattle.mapblock.proofs.Positioned.{position-ends, position-above, position-done}
use Rattle.mapblock.proofs.Leaves.{by_number}
use Rattle.wire.specs.Told.{told_number}
use Rattle.mapblock.proofs.Refusals.{none_becomes}
use Rattle.mapblock.proofs.positions.position.Goals as goal

pub returns-in_err-p : goal.returns-in_err-p
returns-in_err-p c =
    let none = c.in_err-p.ensures in
    rw (none_becomes _ c.from_residual.ensures.1 none.value none.ok_part refl) (position-ends _ (by_number 2 _ (told_number 2) c.number_at.ensures none.ok_part))

pub returns-then-p-gt-LAST_POSITION : goal.returns-then-p-gt-LAST_POSITION
returns-then-p-gt-LAST_POSITION c =
    let p = by_number 2 _ (told_number 2) c.number_at.ensures c.in_ok-p.ensures.ok_part in
    position-above _ p (omega (arith, c.if-p-gt-LAST_POSITION.true))

pub returns : goal.returns
returns c =
    let p = by_number 2 _ (told_number 2) c.number_at.ensures c.in_ok-p.ensures.ok_part in
    position-done _ p (omega (arith, c.if-p-gt-LAST_POSITION.false))

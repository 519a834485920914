use native.Mathlib.Omega.{arith}
use mathlib.Core.Path.{sym}
use Rattle.mapblock.proofs.Positioned.{position-below, new-refused, new-twice, new-done}
use Rattle.wire.proofs.Handed.{handed_on}
use Rattle.mapblock.proofs.positions.new_position.Goals as goal

pub returns-in_err-p : goal.returns-in_err-p
returns-in_err-p c = rw (handed_on _ c.from_residual.ensures.1) (new-refused _ _ (sym c.in_err-p.ensures))

pub bounds-marks-from : goal.bounds-marks-from
bounds-marks-from c = omega (arith, position-below _ (sym c.in_ok-p.ensures))

pub returns-then-marks-from-ne0 : goal.returns-then-marks-from-ne0
returns-then-marks-from-ne0 c = new-twice _ _ (sym c.in_ok-p.ensures) (rw c.from.ensures at c.if-marks-from-ne0.true)

pub bounds-marks-from-2 : goal.bounds-marks-from-2
bounds-marks-from-2 c = omega (arith, position-below _ (sym c.in_ok-p.ensures))

pub returns : goal.returns
returns c = rw c.from-2.ensures (new-done _ _ (sym c.in_ok-p.ensures) (rw c.from.ensures at c.if-marks-from-ne0.false))

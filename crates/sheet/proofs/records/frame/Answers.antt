use mir.Syntax.{w64}
use mir.ValLaws.{to_z-of_z}
use borrow.Author.Rules.{rules}
use Rattle.sheet.proofs.RecordSteps.{frame-no-key, frame-no-block, frame-block}
use Rattle.sheet.proofs.records.frame.Goals as goal

pub returns-in_err-key : goal.returns-in_err-key
returns-in_err-key c = rw c.from_residual.ensures (frame-no-key _ c.in_err-key.ensures)

pub returns-in_err-length : goal.returns-in_err-length
returns-in_err-length c = rw c.from_residual-in_err-length.ensures (frame-no-block _ c.in_ok-key.ensures _ c.run_at.ensures c.in_err-length.ensures.value)

pub returns : goal.returns
returns c = rw (to_z-of_z w64 c.in_ok-key.key (search rules)) (frame-block _ c.in_ok-key.ensures _ c.run_at.ensures c.in_ok-length.ensures.value)

use Rattle.block_reader.proofs.BlockAnswers.{taken_as_lem, sections-refused, sections-told}
use Rattle.wire.proofs.Handed.{handed_on}
use Rattle.block_reader.proofs.read.sections.Goals as goal

pub returns-in_err-scanned : goal.returns-in_err-scanned
returns-in_err-scanned c = rw (handed_on _ c.from_residual.ensures.1) (sections-refused _ c.in_err-scanned.ensures)

pub returns : goal.returns
returns c = sections-told _ (taken_as_lem _ (λ i. (c.type_inv.block i).fits) c.in_ok-scanned.ensures)

use mathlib.Core.Path.{refl, sym}
use Rattle.block_reader.proofs.Fronts.{front-refused}
use Rattle.wire.proofs.Handed.{handed_on}
use Rattle.block_reader.proofs.scan.front.Goals as goal

pub returns-in_err-fields : goal.returns-in_err-fields
returns-in_err-fields c = rw (handed_on _ c.from_residual.ensures.1) (front-refused _ _ (sym c.in_err-fields.ensures), refl)

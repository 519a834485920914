use mathlib.Core.Path.{sym}
use Rattle.mapblock.proofs.MetadataRows.{row-refused}
use Rattle.wire.proofs.Handed.{handed_on}
use Rattle.mapblock.proofs.metadata.row.Goals as goal

pub returns-in_err-p : goal.returns-in_err-p
returns-in_err-p c = rw (handed_on _ c.from_residual.ensures.1) (row-refused _ _ _ (sym c.in_err-p.ensures))

use Rattle.mapblock.proofs.Positioned.{position-plain}
use Rattle.mapblock.proofs.metadata.row_position.Goals as goal

pub returns-else-values : goal.returns-else-values
returns-else-values c = rw c.if-values.false (position-plain _ _ c.number_at.ensures c.ok_or.ensures.value)

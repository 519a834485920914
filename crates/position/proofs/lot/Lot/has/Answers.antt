use Rattle.std.proofs.Common.{rules}
use Rattle.position.proofs.lot.Lot.has.Goals.{then-is_between, else-is_between}
use Rattle.position.proofs.lot.Lot.has.Goals as goal

pub returns-then-is_between-2 : goal.returns-then-is_between-2
returns-then-is_between-2 c = elim c.if-is_between.branch [ then-is_between w ↦ search (rules, c.is_between.ensures, w.is_between-then-is_between.ensures, c.is_between-then-is_between-2.ensures) | else-is_between w ↦ search rules ]

use Rattle.mapblock.proofs.Bounds.{ids-within}
use Rattle.mapblock.proofs.bound.id_bound.Goals as goal

pub returns-clause-told : goal.returns-clause-told
returns-clause-told c = λ long. rw (c.from.ensures, c.from-2.ensures) (ids-within _ _ _ _ c.raise_all.ensures c.greatest_of.ensures c.greatest_of-2.ensures)

use Rattle.std.proofs.Common.{sym, ◌∙◌}
use Rattle.census.proofs.Halves.{in_order}
use Rattle.census.proofs.sort.join_halves.Goals as goal

pub returns-else-comes_before-clause-sorted : goal.returns-else-comes_before-clause-sorted
returns-else-comes_before-clause-sorted c = in_order c.requires.0 c.requires.2 (sym c.comes_before.ensures ∙ c.if-comes_before.false)

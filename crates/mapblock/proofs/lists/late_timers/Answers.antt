use mathlib.Core.Path.{◌∙◌}
use Rattle.mapblock.proofs.RowLists.{late-none, late-some}
use Rattle.mapblock.proofs.lists.late_timers.Goals as goal

pub returns-then-version-lt25 : goal.returns-then-version-lt25
returns-then-version-lt25 c = late-none _ _ c.if-version-lt25.true

pub returns : goal.returns
returns c = c.fixed_list.ensures ∙ late-some _ _ c.if-version-lt25.false

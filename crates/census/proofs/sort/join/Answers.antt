use Rattle.std.proofs.Common.{sym, refl, ◌∙◌, length-set}
use Rattle.census.proofs.Joining.{join-start, take_left, take-right}
use Rattle.census.proofs.sort.join.Goals as goal

pub loop-o-init : goal.loop-o-init
loop-o-init c = (join-start c.requires, refl)

pub loop-o-preserved-then-left : goal.loop-o-preserved-then-left
loop-o-preserved-then-left c = (take_left c.requires.cut c.loop-o.invariant.0 c.loop-o-test.true (sym c.left.ensures ∙ c.if-left.true), rw length-set c.loop-o.invariant.1)

pub loop-o-preserved : goal.loop-o-preserved
loop-o-preserved c = (take-right c.requires.cut c.loop-o.invariant.0 c.loop-o-test.true (sym c.left.ensures ∙ c.if-left.false), rw length-set c.loop-o.invariant.1)

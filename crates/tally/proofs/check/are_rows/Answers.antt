use mathlib.Core.Path.{refl, ◌∙◌}
use native.Mathlib.Omega.{arith}
use Rattle.tally.proofs.Checking.{checking-start, checking-none, checking-falls, checking-on, checking-end}
use Rattle.tally.proofs.check.are_rows.Goals as goal

pub loop-init : goal.loop-init
loop-init c = checking-start _ _ (omega arith)

pub returns-in_default : goal.returns-in_default
returns-in_default c = checking-none c.loop.invariant (omega arith) c.in_default.ensures

pub returns-then-not-may_follow : goal.returns-then-not-may_follow
returns-then-not-may_follow c = checking-falls c.loop.invariant (omega arith) _ _ c.in-Some.ensures c.may_follow.ensures c.if-not-may_follow.true

pub loop-preserved : goal.loop-preserved
loop-preserved c = checking-on c.loop.invariant (omega arith) _ _ c.in-Some.ensures c.may_follow.ensures c.if-not-may_follow.false refl (omega arith)

pub returns : goal.returns
returns c = c.is_empty.ensures ∙ checking-end c.loop.invariant (omega arith)

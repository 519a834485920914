use borrow.Author.Rules.{rules}
use mathlib.Core.Path.{◌∙◌}
use Prim.Native.Nat.{◌<◌}
use Rattle.block_writer.proofs.TimersJudging.{early-above, early-zero, early-one}
use Rattle.block_writer.proofs.measure.judge_timers_24.Goals as goal

pub returns-in-0-clause-told : goal.returns-in-0-clause-told
returns-in-0-clause-told c = λ l w. early-zero c.args.head.timer l c.in-0.is

pub returns-in-1-clause-told : goal.returns-in-1-clause-told
returns-in-1-clause-told c = λ l w. c.shift.ensures ∙ early-one c.args.head.timer l c.in-1.is (c.judge_timers.ensures.told l w)

pub returns-in_default-clause-told : goal.returns-in_default-clause-told
returns-in_default-clause-told c =
    let above : 1 < c.args.head.timer = search rules in
    let below : c.args.head.timer < 256 = search rules in
    λ l w. rw c.into.ensures (early-above c.args.head.timer l below above)

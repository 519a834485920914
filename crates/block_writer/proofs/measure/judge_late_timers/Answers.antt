use mathlib.Core.Path.{◌∙◌}
use Rattle.wire.specs.Bytes.{Bytes}
use Rattle.block_writer.proofs.TimersJudging.{late-before, late-from}
use Rattle.block_writer.proofs.measure.judge_late_timers.Goals as goal

pub returns-then-head-lt25-clause-told : goal.returns-then-head-lt25-clause-told
returns-then-head-lt25-clause-told c =
    let b : Bytes c.args.timers.now = λ i. (c.type_inv.timers i).fits in
    λ l w k. late-before c.args.head b w k c.if-head-lt25.true

pub returns-clause-told : goal.returns-clause-told
returns-clause-told c =
    let b : Bytes c.args.timers.now = λ i. (c.type_inv.timers i).fits in
    λ l w k. c.shift.ensures ∙ late-from c.args.head b w k c.if-head-lt25.false (c.judge_timers.ensures.told l w)

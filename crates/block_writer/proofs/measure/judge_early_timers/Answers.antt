use borrow.Author.Rules.{rules}
use Rattle.wire.specs.Bytes.{Bytes}
use Rattle.block_writer.proofs.TimersJudging.{early-of-23, early-other}
use Rattle.block_writer.proofs.measure.judge_early_timers.Goals as goal

pub returns-in-23-clause-told : goal.returns-in-23-clause-told
returns-in-23-clause-told c =
    let b : Bytes c.args.timers.now = λ i. (c.type_inv.timers i).fits in
    λ l w k t. early-of-23 c.args.head b w k t c.in-23.is

pub returns-in_default-clause-told : goal.returns-in_default-clause-told
returns-in_default-clause-told c =
    let b : Bytes c.args.timers.now = λ i. (c.type_inv.timers i).fits in
    λ l w k t. early-other c.args.head b w k t (search rules) (search rules)

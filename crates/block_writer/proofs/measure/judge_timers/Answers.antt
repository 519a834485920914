use mathlib.Core.Path.{◌∙◌}
use Rattle.wire.specs.Bytes.{Bytes}
use Rattle.mapblock.specs.Layout.{timer_row}
use Rattle.block_writer.specs.Frames.{timer_frame}
use Rattle.block_writer.proofs.Framed.{timer-looser}
use Rattle.block_writer.proofs.RowsJudging.{listed-verdict_on}
use Rattle.block_writer.proofs.measure.judge_timers.Goals as goal

pub returns-clause-told : goal.returns-clause-told
returns-clause-told c =
    let b : Bytes c.args.timers.now = λ i. (c.type_inv.timers i).fits in
    λ l w. c.shift.ensures ∙ listed-verdict_on timer_frame b w timer_row timer-looser c.rows.ensures

use mathlib.Core.Path.{◌∙◌, ap}
use Rattle.wire.specs.Format.{items}
use Rattle.wire.proofs.Lists.{rest-is}
use Rattle.tally.specs.Walks.{takes}
use Rattle.tally.specs.Told.{told_check}
use Rattle.tally.specs.Tally.{row, one}
use Rattle.tally.proofs.Heads.{stated, unstated}
use Rattle.tally.proofs.Checks.{check-unstated, check-taken}
use Rattle.tally.proofs.check.check.Goals as goal

pub returns-in_err-count : goal.returns-in_err-count
returns-in_err-count c = ap told_check c.from_residual.ensures ∙ check-unstated _ (unstated _ c.in_err-count.ensures)

pub returns : goal.returns
returns c =
    let t = c.args.t.now in
    let n = c.in_ok-count.count in
    ap told_check c.then_some.ensures
    ∙ check-taken t n (λ i. (c.type_inv.t i).fits) (stated t c.in_ok-count.ensures).1 c.are_rows.result (c.are_rows.ensures ∙ ap (takes (items (row one) n)) (rest-is 9 t))

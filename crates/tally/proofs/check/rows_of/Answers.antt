use mathlib.Core.Path.{◌∙◌}
use Rattle.wire.proofs.Lists.{rest-is}
use Rattle.wire.proofs.Places.{place_is, place-first}
use Rattle.wire.proofs.Steps.{told-as}
use Rattle.tally.specs.Told.{told_check}
use Rattle.tally.proofs.Checks.{check-long, rows-there, rows_start, rows-nowhere, rows-first}
use Rattle.tally.proofs.check.rows_of.Goals as goal

pub slice_bounds-result-count : goal.slice_bounds-result-count
slice_bounds-result-count c = check-long c.args.t.now (λ i. (c.type_inv.t i).fits) c.in-Some.ensures

pub slice_bounds-result-start : goal.slice_bounds-result-start
slice_bounds-result-start c = check-long c.args.t.now (λ i. (c.type_inv.t i).fits) c.in-Some.ensures

pub returns-in-Some : goal.returns-in-Some
returns-in-Some c =
    let t = c.args.t in
    record { told = rest-is 9 t.now ∙ rows-there t.now c.in-Some.ensures; place = place_is t (rows_start t.now c.in-Some.ensures) }

pub returns-in-None : goal.returns-in-None
returns-in-None c =
    let t = c.args.t in
    let told = told-as told_check c.check.ensures c.in-None.is in
    record { told = rows-nowhere t.now told; place = place-first t (rows-first t.now told) }

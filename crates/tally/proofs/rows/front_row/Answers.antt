use mathlib.Core.Path.{◌∙◌, ap}
use native.Mathlib.Omega.{arith}
use Rattle.tally.specs.Told.{told_row}
use Rattle.tally.proofs.FrontRows.{run-is, front-no-name, front-no-count, front-none, front-some}
use Rattle.tally.proofs.rows.front_row.Goals as goal

pub returns-in_err-n : goal.returns-in_err-n
returns-in_err-n c =
    let s = c.args.s.now in
    ap (told_row s) c.from_residual.ensures ∙ front-no-name s c.run_at.result c.in_err-n.ensures.value c.run_at.ensures

pub returns-in_err-count : goal.returns-in_err-count
returns-in_err-count c =
    let s = c.args.s.now in
    ap (told_row s) c.from_residual-in_err-count.ensures ∙ front-no-count s c.in_ok-n.n (run-is s c.run_at.result c.in_ok-n.ensures.value c.run_at.ensures) c.in_err-count.ensures

pub returns-then-count-eq0 : goal.returns-then-count-eq0
returns-then-count-eq0 c =
    let s = c.args.s.now in
    front-none s c.in_ok-n.n (run-is s c.run_at.result c.in_ok-n.ensures.value c.run_at.ensures) c.in_ok-count.count c.in_ok-count.ensures (λ i. (c.type_inv.s i).fits) c.if-count-eq0.true

pub returns : goal.returns
returns c =
    let s = c.args.s.now in
    front-some s c.in_ok-n.n (run-is s c.run_at.result c.in_ok-n.ensures.value c.run_at.ensures) c.in_ok-count.count c.in_ok-count.ensures (λ i. (c.type_inv.s i).fits) (omega arith)

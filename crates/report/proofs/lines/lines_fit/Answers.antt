use Rattle.report.proofs.Passing.{measuring-end, measuring-full, measuring-on}
use Rattle.report.proofs.lines.lines_fit.Goals as goal

pub returns-in_default-checked_sub : goal.returns-in_default-checked_sub
returns-in_default-checked_sub c =
    measuring-full c.loop-n.invariant c.in-Some.n c.in-Some.count _ c.in-Some.ensures c.decimal_length.ensures.told c.in_default-checked_sub.ensures

pub loop-n-preserved : goal.loop-n-preserved
loop-n-preserved c =
    measuring-on c.loop-n.invariant c.in-Some.n c.in-Some.count _ c.in-Some.ensures c.decimal_length.ensures.told c.in-Some-checked_sub.ensures

pub returns : goal.returns
returns c = measuring-end c.loop-n.invariant c.in_default.ensures

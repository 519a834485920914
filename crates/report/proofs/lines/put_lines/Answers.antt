use native.Mathlib.Omega.{arith}
use Rattle.report.proofs.Passing.{writing-room, writing-end, writing-on}
use Rattle.report.proofs.lines.put_lines.Goals as goal

pub put_line-at-requires : goal.put_line-at-requires
put_line-at-requires c = writing-room c.loop-n.invariant c.in-Some.n c.in-Some.count c.in-Some.ensures c.requires

pub loop-n-preserved : goal.loop-n-preserved
loop-n-preserved c = writing-on c.loop-n.invariant c.in-Some.n c.in-Some.count c.in-Some.ensures c.put_line-at.ensures (omega arith)

pub returns : goal.returns
returns c = writing-end c.loop-n.invariant c.in_default.ensures

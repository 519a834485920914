use native.Mathlib.Omega.{arith}
use Rattle.mapblock.proofs.Entries.{params-done, params-short, params-cut}
use Rattle.mapblock.proofs.nodes.params.Goals as goal

pub returns-then-s-entry : goal.returns-then-s-entry
returns-then-s-entry c =
    let a = c.args in
    rw (c.ends.ensures, c.width-entry.ensures, params-short a.version a.s.now (omega arith))

pub returns-then-s-entry-2 : goal.returns-then-s-entry-2
returns-then-s-entry-2 c =
    let a = c.args in
    rw (c.ends-then-s-entry-2.ensures, params-cut a.version a.s.now (omega arith) (omega arith))

pub returns : goal.returns
returns c =
    let a = c.args in
    rw (c.width-entry.ensures, params-done a.version a.s.now (omega arith))

use mathlib.Core.Path.{sym, ◌∙◌}
use native.Mathlib.Omega.{arith}
use lib.ListN.{length-drop}
use Rattle.wire.proofs.Lists.{rest-is}
use Rattle.block_reader.proofs.NameWalks.{row-start, row-size, row_inside, all-refused}
use Rattle.block_reader.proofs.NodeNames.{finding-none, finding-here, finding-on, bytes-within}
use Rattle.block_reader.proofs.node.find.Goals as goal

pub overflow_add-result : goal.overflow_add-result
overflow_add-result c =
    let s = c.loop-row.rest.now in
    let f = c.loop-row.invariant in
    let k = c.in-Ok.ensures in
    omega (arith, f.size, c.requires, bytes-within c.args.block.now c.args.names, row-start s k, row-size s k f.bytes, row_inside s k)

pub returns-then-from-id : goal.returns-then-from-id
returns-then-from-id c = finding-here c.loop-row.invariant c.in-Ok.ensures (sym c.from.ensures ∙ c.if-from-id.true)

pub loop-row-smaller : goal.loop-row-smaller
loop-row-smaller c =
    let s = c.loop-row.rest.now in
    let f = c.loop-row.invariant in
    let k = c.in-Ok.ensures in
    rw (rest-is c.in-Ok.n s, length-drop) (omega (arith, row-size s k f.bytes, row_inside s k))

pub loop-row-preserved : goal.loop-row-preserved
loop-row-preserved c = finding-on c.loop-row.invariant c.in-Ok.ensures (λ e. c.if-from-id.false (c.from.ensures ∙ e))

pub returns : goal.returns
returns c = finding-none c.loop-row.invariant (all-refused c.loop-row.rest.now c.in_default.ensures)

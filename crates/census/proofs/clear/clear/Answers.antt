use Rattle.std.proofs.Common.{arith, length-drop}
use Rattle.wire.proofs.Lists.{rest-is}
use Rattle.block_reader.proofs.NameWalks.{row-size, row_inside, all-refused}
use Rattle.census.proofs.Cleared.{clearing-none, clearing-on}
use Rattle.census.proofs.clear.clear.Goals as goal

pub loop-row-smaller : goal.loop-row-smaller
loop-row-smaller c =
    let rest = c.loop-row.rest.now in
    rw (rest-is c.in-Ok.n rest, length-drop) (omega (arith, row_inside rest c.in-Ok.ensures, row-size rest c.in-Ok.ensures c.loop-row.invariant.bytes))

pub loop-row-preserved : goal.loop-row-preserved
loop-row-preserved c = rw c.from.ensures (clearing-on c.loop-row.invariant c.in-Ok.ensures)

pub returns : goal.returns
returns c = clearing-none c.loop-row.invariant (all-refused c.loop-row.rest.now c.in_default.ensures)

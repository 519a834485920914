use Rattle.std.proofs.Common.{arith, length-drop}
use Rattle.wire.proofs.Lists.{rest-is}
use Rattle.block_reader.proofs.NameWalks.{row-size, row_inside, all-refused}
use Rattle.census.proofs.UsedWalk.{using-full, using-none, using-over, using-store}
use Rattle.census.proofs.used.used.Goals as goal
use Rattle.census.proofs.used.used.Goals.{then-counts-from-ne0, else-counts-from-ne0}

pub returns-in_default : goal.returns-in_default
returns-in_default c =
    let l = c.loop-n in
    let w = using-none l.invariant (all-refused l.rest.now c.in_default.ensures) in
    record { bounded = l.invariant.few; told = w.0; places = w.1 }

pub loop-n-smaller : goal.loop-n-smaller
loop-n-smaller c =
    let rest = c.loop-n.rest.now in
    rw (rest-is c.in-Ok.size rest, length-drop) (omega (arith, row-size rest c.in-Ok.ensures c.loop-n.invariant.bytes, row_inside rest c.in-Ok.ensures))

pub loop-n-preserved : goal.loop-n-preserved
loop-n-preserved c =
    let f = c.loop-n.invariant in
    elim c.if-counts-from-ne0.branch [
      | then-counts-from-ne0 w ↦ rw (w.places-is, w.n-is) (using-store f c.in-Ok.ensures c.loop-n-test.true (rw c.from.ensures at w.if-counts-from-ne0.true))
      | else-counts-from-ne0 w ↦ rw (w.places-is, w.n-is) (using-over f c.in-Ok.ensures (rw c.from.ensures at w.if-counts-from-ne0.false))
    ]

pub returns-after-loop-n : goal.returns-after-loop-n
returns-after-loop-n c =
    let l = c.loop-n in
    let w = using-full l.invariant c.loop-n-test.false in
    record { bounded = l.invariant.few; told = w.0; places = w.1 }

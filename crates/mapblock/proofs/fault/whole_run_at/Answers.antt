use Prim.Native.Nat.{◌+◌, ◌≤◌}
use native.Mathlib.Omega.{arith}
use lib.ListN.{length, drop, length-drop}
use Rattle.wire.specs.Ranges.{InReach}
use Rattle.wire.specs.Told.{told_run}
use Rattle.mapblock.proofs.Leaves.{by-counted}
use Rattle.mapblock.proofs.Readings.{text, within}
use Rattle.mapblock.proofs.fault.whole_run_at.Goals as goal

pub returns-in-Ok : goal.returns-in-Ok
returns-in-Ok g c = rw (by-counted g.L.Number.WIDTH _ (told_run g.L.Number.WIDTH (drop c.args.at c.args.s.now)) c.run_at.ensures c.in-Ok.is)

pub returns-in-Err : goal.returns-in-Err
returns-in-Err g c =
    let told = by-counted g.L.Number.WIDTH _ (told_run g.L.Number.WIDTH (drop c.args.at c.args.s.now)) c.run_at.ensures c.in-Err.is in
    let inside : c.in-Err.field-0.0 ≤ length (drop c.args.at c.args.s.now) = within (text g.L.Number.WIDTH) _ told in
    let reach : InReach (c.args.at + c.ends.result.offset) = rw c.ends.ensures (omega (arith, inside, length-drop c.args.at c.args.s.now)) in
    rw (c.behind.ensures reach, c.ends.ensures, told)

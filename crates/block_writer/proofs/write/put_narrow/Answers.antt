use mathlib.Core.Path.{◌≡◌}
use native.Mathlib.Omega.{arith}
use lib.ListN.{length}
use Rattle.block_writer.proofs.Entries.{laying-length, entries-length, narrow-on}
use Rattle.block_writer.proofs.write.put_narrow.Goals as goal

pub bounds-out-at : goal.bounds-out-at
bounds-out-at c =
    let a = c.args in
    let l = c.loop-i in
    let kept : length l.out ≡ length a.out.now = laying-length 1 a.at a.param0.now a.out.now l.out l.i l.invariant c.requires in
    omega (arith, entries-length 1 a.param0.now)

pub loop-i-preserved : goal.loop-i-preserved
loop-i-preserved c =
    let a = c.args in
    let l = c.loop-i in
    narrow-on a.at a.param0.now a.out.now l.out l.i c.loop-i-test.true c.requires l.invariant

use mathlib.Core.Path.{◌≡◌}
use native.Mathlib.Omega.{arith}
use lib.ListN.{length, length-set}
use Rattle.block_writer.proofs.Entries.{laying-length, entries-length, wide-on}
use Rattle.block_writer.proofs.write.put_wide.Goals as goal

pub bounds-out-at : goal.bounds-out-at
bounds-out-at c =
    let a = c.args in
    let l = c.loop-i in
    let kept : length l.out ≡ length a.out.now = laying-length 2 a.at a.param0.now a.out.now l.out l.i l.invariant c.requires in
    omega (arith, entries-length 2 a.param0.now)

pub bounds-out-at-in-loop-i : goal.bounds-out-at-in-loop-i
bounds-out-at-in-loop-i c =
    let a = c.args in
    let l = c.loop-i in
    let kept : length l.out ≡ length a.out.now = laying-length 2 a.at a.param0.now a.out.now l.out l.i l.invariant c.requires in
    rw length-set (omega (arith, entries-length 2 a.param0.now))

pub loop-i-preserved : goal.loop-i-preserved
loop-i-preserved c =
    let a = c.args in
    let l = c.loop-i in
    wide-on a.at a.param0.now a.out.now l.out l.i c.loop-i-test.true c.requires (c.type_inv.param0 l.i).fits l.invariant

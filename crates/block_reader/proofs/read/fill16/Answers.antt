use Prim.Native.Nat.{◌*◌}
use mathlib.Core.Path.{sym}
use native.Mathlib.Omega.{arith}
use lib.ListN.{length}
use Rattle.mapblock.proofs.Entries.{entry-two, fill_on, fill_end}
use Rattle.block_reader.proofs.read.fill16.Goals as goal

pub loop-i-preserved : goal.loop-i-preserved
loop-i-preserved c =
    let a = c.args in
    let l = c.loop-i in
    let s = a.s.now in
    rw c.from_be_bytes.ensures (fill_on 2 (length a.out.now) s l.out l.i l.invariant _ (omega arith) (sym (entry-two s (2 * l.i) (omega arith))))

pub returns : goal.returns
returns c =
    let a = c.args in
    let l = c.loop-i in
    fill_end 2 (length a.out.now) a.s.now l.out l.i l.invariant (omega arith)

use mathlib.Core.Path.{sym}
use native.Mathlib.Nat.{one-mul}
use native.Mathlib.Omega.{arith}
use lib.ListN.{length}
use Rattle.mapblock.proofs.Entries.{entry-one, fill_on, fill_end}
use Rattle.block_reader.proofs.read.fill8.Goals as goal

pub loop-i-preserved : goal.loop-i-preserved
loop-i-preserved c =
    let a = c.args in
    let l = c.loop-i in
    let s = a.s.now in
    fill_on 1 (length a.out.now) s l.out l.i l.invariant _ (omega arith) (rw (c.from.ensures, one-mul) (sym (entry-one s l.i)))

pub returns : goal.returns
returns c =
    let a = c.args in
    let l = c.loop-i in
    fill_end 1 (length a.out.now) a.s.now l.out l.i l.invariant (omega arith)

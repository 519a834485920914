use mathlib.Core.Path.{sym}
use native.Mathlib.Omega.{arith}
use Rattle.wire.specs.Bytes.{to_be, to_be-length}
use Rattle.wire.proofs.Overwrites.{stored-not}
use Rattle.wire.proofs.Stores.{spelling-start, spelling-length, spelling-on, spelling-end}
use Rattle.wire.proofs.store.put_bits.Goals as goal
use Rattle.wire.proofs.store.put_bits.Goals.{then-out-at-via-then-out-at, then-out-at-via-else-out-at+then-out-at-2}

pub returns-then-out-at : goal.returns-then-out-at
returns-then-out-at c =
    let a = c.args in
    sym (stored-not a.at (to_be a.k a.v) a.out.now
    (elim c.then-out-at.branch [ then-out-at-via-then-out-at w ↦ omega (arith, w.if-out-at.true) | then-out-at-via-else-out-at+then-out-at-2 w ↦ omega (arith, w.if-out-at.false, w.if-out-at-2.true, to_be-length a.k a.v) ]))

pub loop-i-init : goal.loop-i-init
loop-i-init c = let a = c.args in spelling-start a.at a.k a.v a.out.now

pub bounds-out-at : goal.bounds-out-at
bounds-out-at c =
    let a = c.args in
    let l = c.loop-i in
    omega (arith, l.invariant.less, spelling-length a.at a.k a.v a.out.now l.out l.x _ (omega arith) l.invariant)

pub loop-i-preserved : goal.loop-i-preserved
loop-i-preserved c =
    let a = c.args in
    let l = c.loop-i in
    spelling-on a.at a.k a.v a.out.now l.out l.x _ (omega arith) l.invariant (omega arith)

pub shape_of-out : goal.shape_of-out
shape_of-out c =
    let a = c.args in
    let l = c.loop-i in
    spelling-length a.at a.k a.v a.out.now l.out l.x _ (omega arith) l.invariant

pub returns : goal.returns
returns c =
    let a = c.args in
    let l = c.loop-i in
    spelling-end a.at a.k a.v a.out.now l.out l.x _ (omega arith) l.invariant (omega arith)

use mathlib.Core.Path.{sym}
use native.Mathlib.Omega.{arith}
use Rattle.wire.proofs.Overwrites.{overwrite-none, stored-not}
use Rattle.wire.proofs.Stores.{copy-length, copy-on, copy-end}
use Rattle.wire.proofs.store.put_bytes.Goals as goal
use Rattle.wire.proofs.store.put_bytes.Goals.{then-out-at-via-then-out-at, then-out-at-via-else-out-at+then-out-at-2}

pub returns-then-out-at : goal.returns-then-out-at
returns-then-out-at c =
    let a = c.args in
    sym (stored-not a.at a.from.now a.out.now
    (elim c.then-out-at.branch [ then-out-at-via-then-out-at w ↦ omega (arith, w.if-out-at.true) | then-out-at-via-else-out-at+then-out-at-2 w ↦ omega (arith, w.if-out-at.false, w.if-out-at-2.true) ]))

pub loop-i-init : goal.loop-i-init
loop-i-init c = let a = c.args in (sym (overwrite-none a.at a.out.now), omega arith)

pub bounds-out-at : goal.bounds-out-at
bounds-out-at c =
    let a = c.args in
    let l = c.loop-i in
    omega (arith, copy-length a.at a.from.now a.out.now l.out l.i (omega arith) l.invariant.0 l.invariant.1)

pub loop-i-preserved : goal.loop-i-preserved
loop-i-preserved c =
    let a = c.args in
    let l = c.loop-i in
    (copy-on a.at a.from.now a.out.now l.out l.i (omega arith) l.invariant.0 (omega arith), omega arith)

pub shape_of-out : goal.shape_of-out
shape_of-out c =
    let a = c.args in
    let l = c.loop-i in
    copy-length a.at a.from.now a.out.now l.out l.i (omega arith) l.invariant.0 l.invariant.1

pub returns : goal.returns
returns c =
    let a = c.args in
    let l = c.loop-i in
    copy-end a.at a.from.now a.out.now l.out l.i (omega arith) l.invariant.0 (omega arith)

use mathlib.Core.Path.{sym}
use native.Mathlib.Omega.{arith}
use Rattle.wire.proofs.Overwrites.{moved-not}
use Rattle.wire.proofs.Stores.{moving-start, moving-length, moving-on, moving-end}
use Rattle.wire.proofs.store.move_back.Goals as goal
use Rattle.wire.proofs.store.move_back.Goals.{then-s-by-via-then-s-by, then-s-by-via-else-s-by+then-s-by-2}

pub returns-then-s-by : goal.returns-then-s-by
returns-then-s-by c =
    let a = c.args in
    sym (moved-not a.n a.by a.s.now (elim c.then-s-by.branch [ then-s-by-via-then-s-by w ↦ omega (arith, w.if-s-by.true) | then-s-by-via-else-s-by+then-s-by-2 w ↦ omega (arith, w.if-s-by.false, w.if-s-by-2.true) ]))

pub loop-i-init : goal.loop-i-init
loop-i-init c = let a = c.args in moving-start a.n a.by a.s.now (omega arith)

pub bounds-s-i : goal.bounds-s-i
bounds-s-i c =
    let a = c.args in
    let l = c.loop-i in
    omega (arith, l.invariant.less, moving-length a.n a.by a.s.now (omega arith) l.s _ l.invariant)

pub overflow_add-s : goal.overflow_add-s
overflow_add-s c =
    let a = c.args in
    let l = c.loop-i in
    omega (arith, l.invariant.less)

pub bounds-s-i-in-loop-i : goal.bounds-s-i-in-loop-i
bounds-s-i-in-loop-i c =
    let a = c.args in
    let l = c.loop-i in
    omega (arith, l.invariant.less, moving-length a.n a.by a.s.now (omega arith) l.s _ l.invariant)

pub loop-i-preserved : goal.loop-i-preserved
loop-i-preserved c =
    let a = c.args in
    let l = c.loop-i in
    moving-on a.n a.by a.s.now (omega arith) l.s _ l.invariant (omega arith)

pub shape_of-s : goal.shape_of-s
shape_of-s c =
    let a = c.args in
    let l = c.loop-i in
    moving-length a.n a.by a.s.now (omega arith) l.s _ l.invariant

pub returns : goal.returns
returns c =
    let a = c.args in
    let l = c.loop-i in
    moving-end a.n a.by a.s.now (omega arith) l.s _ l.invariant (omega arith)

use native.Mathlib.Omega.{arith}
use Prim.Native.Nat.{◌+◌, ◌-◌}
use mathlib.Core.Path.{◌≡◌, sym, ◌∙◌}
use lib.ListN.{length-drop}
use Rattle.wire.proofs.Lists.{rest-is}
use Rattle.mapblock.proofs.NameRows.{front-none, front-stop, front-on}
use Rattle.mapblock.proofs.names.unmark.Goals as goal

pub returns-in_default : goal.returns-in_default
returns-in_default c = sym (front-stop _ _ _ (sym c.in_default.ensures)) ∙ c.loop.invariant.0

pub returns : goal.returns
returns c = sym (front-none _ _ _ (omega arith)) ∙ c.loop.invariant.0

pub loop-preserved : goal.loop-preserved
loop-preserved c =
    let l = c.loop in
    let next : c.args.count - l.counter - 1 ≡ c.args.count - (l.counter + 1) = omega arith in
    let one = front-on l.ids l.rest.now (c.args.count - l.counter) (omega arith) (sym c.in-Ok.ensures) in
    rw (rest-is c.in-Ok.n l.rest.now, c.from.ensures, ← next) (sym one ∙ l.invariant.0, rw length-drop (omega arith))

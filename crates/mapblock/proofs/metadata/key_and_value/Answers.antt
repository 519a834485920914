use Prim.Native.Nat.{◌+◌}
use native.Mathlib.Nat.{zero-add}
use Rattle.mapblock.proofs.MetadataRows.{key-ends, value-ends, value-done}
use Rattle.mapblock.proofs.Refusals.{at_refused, at_done}
use Rattle.wire.proofs.Handed.{handed_on}
use Rattle.mapblock.proofs.metadata.key_and_value.Goals as goal

pub returns-in_err-k : goal.returns-in_err-k
returns-in_err-k c = rw (handed_on _ c.from_residual.ensures.1) (at_refused 0 _ c.in_err-k.ensures (λ q e. rw zero-add (key-ends _ e)))

pub returns-in_err-n : goal.returns-in_err-n
returns-in_err-n c =
    let key = at_done 0 _ c.in_ok-k.ensures in
    rw (handed_on _ c.from_residual-in_err-n.ensures.1) (at_refused (2 + c.in_ok-k.k) _ c.in_err-n.ensures (λ q e. value-ends _ key e))

pub returns : goal.returns
returns c =
    let key = at_done 0 _ c.in_ok-k.ensures in
    value-done _ c.in_ok-k.k c.in_ok-n.n key (at_done (2 + c.in_ok-k.k) _ c.in_ok-n.ensures)

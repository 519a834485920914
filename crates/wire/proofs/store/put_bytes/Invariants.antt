use Prim.Native.Nat.{◌≤◌}
use mathlib.Core.Path.{◌≡◌}
use lib.ListN.{length, take}
use Rattle.wire.specs.Store.{overwrite}
use Rattle.wire.proofs.store.put_bytes.Given as goal

abbrev pub invariant-loop-i : goal.invariant-loop-i
invariant-loop-i l = (l.out ≡ overwrite l.at (take l.i l.from) l.initial.out) × (l.i ≤ length l.from)

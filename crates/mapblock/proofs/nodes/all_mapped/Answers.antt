use native.Mathlib.Omega.{arith}
use Prim.Native.Nat.{◌≤◌}
use lib.ListN.{length}
use Rattle.mapblock.proofs.FirstUnmapped.{no-first_unmapped}
use Rattle.mapblock.proofs.nodes.all_mapped.Goals as goal

pub returns-then-version-ge24 : goal.returns-then-version-ge24
returns-then-version-ge24 c e =
    let a = c.args in
    let long : 8192 ≤ length a.s.now = omega arith in
    no-first_unmapped a.version a.s.now a.ids.now _ (omega arith) long (c.id_bound.ensures.told long) (c.marked_upto.ensures e)

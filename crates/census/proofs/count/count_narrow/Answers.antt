use Rattle.std.proofs.Common.{◌+◌, ◌-◌, ◌<◌, refl, arith}
use Rattle.mapblock.proofs.Entries.{content-below}
use Rattle.census.specs.Counters.{narrow_id}
use Rattle.census.proofs.Raises.{table, raised-none, raised-one}
use Rattle.census.proofs.count.count_narrow.Goals as goal

pub loop-i-init : goal.loop-i-init
loop-i-init c = (omega arith, raised-none _ _ _ (table c.told-counts c.fits-counts) (omega arith))

pub loop-i-preserved : goal.loop-i-preserved
loop-i-preserved c =
    let l = c.loop-i in
    let a = c.args in
    let b = c.type_inv.lists in
    let id = rw c.from.ensures at c.content_id-id.ensures in
    let below : c.content_id-id.result < 65536 = rw id (content-below a.version _ _ (omega (arith, b l.i)) (b (8192 + l.i)).fits (λ _. (b l.i).fits)) in
    (omega arith, raised-one (narrow_id a.version a.lists.now) a.from (l.i - a.from) (table c.told-counts c.fits-counts) l.invariant.1 l.i _ _ (omega arith) (omega arith) id below refl)

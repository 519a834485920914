use Rattle.std.proofs.Common.{◌-◌, refl, arith}
use Rattle.census.specs.Counters.{wide_id}
use Rattle.census.proofs.Raises.{table, raised-none, raised-one}
use Rattle.census.proofs.count.count_each.Goals as goal

pub loop-i-init : goal.loop-i-init
loop-i-init c = (omega arith, raised-none _ _ _ (table c.told-counts c.fits-counts) (omega arith))

pub loop-i-preserved : goal.loop-i-preserved
loop-i-preserved c =
    let l = c.loop-i in
    (omega arith, raised-one (wide_id c.args.lists.now) c.args.from (l.i - c.args.from) (table c.told-counts c.fits-counts) l.invariant.1 l.i _ _ (omega arith) (omega arith) c.wide_id-id.ensures.told c.wide_id-id.ensures.bounded refl)

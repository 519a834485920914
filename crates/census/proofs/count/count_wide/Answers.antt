use Rattle.std.proofs.Common.{◌+◌, ◌-◌, arith}
use Rattle.census.specs.Counters.{is_at, wide_id}
use Rattle.census.proofs.Raises.{table, raised-none, raised-on}
use Rattle.census.proofs.count.count_wide.Goals as goal

pub loop-counts-init : goal.loop-counts-init
loop-counts-init c = (omega arith, omega arith, raised-none _ _ _ (table c.told-counts c.fits-counts) (omega arith))

pub loop-counts-preserved : goal.loop-counts-preserved
loop-counts-preserved c =
    let l = c.loop-counts in
    let s = c.args in
    (omega arith, omega arith, raised-on (is_at (wide_id s.lists.now)) s.from (l.i - s.from) l.i 4 (l.i + 4 - s.from) l.invariant.2 c.count_four.ensures (omega arith) (omega arith))

pub returns : goal.returns
returns c =
    let l = c.loop-counts in
    let s = c.args in
    raised-on (is_at (wide_id s.lists.now)) s.from (l.i - s.from) l.i (s.until - l.i) (s.until - s.from) l.invariant.2 c.count_each.ensures (omega arith) (omega arith)

use Rattle.std.proofs.Common.{◌-◌, ◌≤◌}
use Rattle.census.specs.Counters.{is_at, wide_id}
use Rattle.census.specs.CountsById.{Raised}
use Rattle.census.proofs.count.count_wide.Given as goal

abbrev pub invariant-loop-counts : goal.invariant-loop-counts
invariant-loop-counts l = (l.from ≤ l.i) × (l.i - l.from ≤ l.until - l.from) × Raised (is_at (wide_id l.lists)) l.from (l.i - l.from) l.initial.counts l.counts

abbrev pub decreases-loop-counts : goal.decreases-loop-counts
decreases-loop-counts l = l.until - l.i

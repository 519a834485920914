use Rattle.std.proofs.Common.{◌-◌, ◌≤◌}
use Rattle.census.specs.Counters.{is_at, wide_id}
use Rattle.census.specs.CountsById.{Raised}
use Rattle.census.proofs.count.count_each.Given as goal

abbrev pub invariant-loop-i : goal.invariant-loop-i
invariant-loop-i l = (l.i - l.from ≤ l.until - l.from) × Raised (is_at (wide_id l.lists)) l.from (l.i - l.from) l.initial.counts l.counts

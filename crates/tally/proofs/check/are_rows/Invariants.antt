-- The rows so far were taken, and those that are left give the answer asked.
use Prim.Native.Nat.{◌-◌}
use Rattle.tally.proofs.Checking.{Checking}
use Rattle.tally.proofs.check.are_rows.Given as goal

abbrev pub invariant-loop : goal.invariant-loop
invariant-loop l = Checking l.count l.s l.rest l.last (l.count - l.counter)

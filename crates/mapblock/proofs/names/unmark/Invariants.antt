-- Taking off the marks of the rows that are left gives the answer.
use Prim.Native.Nat.{◌-◌, ◌≤◌}
use mathlib.Core.Path.{◌≡◌}
use lib.ListN.{length}
use Rattle.mapblock.specs.Table.{unmarked, front_rows}
use Rattle.mapblock.proofs.names.unmark.Given as goal

abbrev pub invariant-loop : goal.invariant-loop
invariant-loop l = (unmarked l.ids (front_rows (l.count - l.counter) l.rest) ≡ unmarked l.initial.ids (front_rows l.count l.s)) × (length l.rest ≤ length l.s)

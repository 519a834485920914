use Rattle.std.proofs.Common.{◌≡◌, ◌≤◌, length, take}
use Rattle.census.proofs.sort.take_back.Given as goal

abbrev pub invariant-loop-i : goal.invariant-loop-i
invariant-loop-i l = (l.i ≤ length l.initial.a) × (length l.a ≡ length l.initial.a) × (take l.i l.a ≡ take l.i l.b)

use Rattle.std.proofs.Common.{◌≡◌, ◌-◌, length}
use Rattle.census.proofs.Joining.{Joining}
use Rattle.census.proofs.sort.join.Given as goal

abbrev pub invariant-loop-o : goal.invariant-loop-o
invariant-loop-o l = Joining l.s l.a l.mid l.b l.i l.j l.o × (length l.b ≡ length l.initial.b)

abbrev pub decreases-loop-o : goal.decreases-loop-o
decreases-loop-o l = length l.a - l.o

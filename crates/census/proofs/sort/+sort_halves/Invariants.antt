use Rattle.std.proofs.Common.{length}
use Rattle.census.proofs.sort.+sort_halves.Given as goal

abbrev pub decreases-sort_halves : goal.decreases-sort_halves
decreases-sort_halves l = length l.places.now

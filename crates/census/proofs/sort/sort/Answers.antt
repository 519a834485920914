use Rattle.census.proofs.Halves.{sorted-again}
use Rattle.census.proofs.sort.sort.Goals as goal
use Rattle.census.proofs.sort.sort.Goals.{then-is_sorted_by, else-is_sorted_by}

-- the places are those that were lent, or these turned round
pub returns-clause-sorted : goal.returns-clause-sorted
returns-clause-sorted c h =
    elim c.if-is_sorted_by.branch [
      | then-is_sorted_by w ↦ sorted-again w.reverse.ensures.permutation (rw w.places-is at c.sort_halves.ensures)
      | else-is_sorted_by w ↦ rw w.places-is at c.sort_halves.ensures
    ]

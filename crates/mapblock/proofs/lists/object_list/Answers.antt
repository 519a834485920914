use Rattle.mapblock.specs.Layout.{objects}
use Rattle.mapblock.proofs.lists.object_list.Goals as goal

pub returns : goal.returns
unfolding objects
returns c = c.fixed_list.ensures

use mathlib.Core.Path.{◌∙◌}
use Rattle.wire.proofs.Orders.{slice_cmp-order}
use Rattle.wire.proofs.order.compare_rest.Goals as goal

pub returns : goal.returns
returns c = c.cmp.ensures ∙ slice_cmp-order c.args.a.now c.args.b.now

use Rattle.meter.proofs.AddedBlock.{added-block}
use Rattle.meter.proofs.adding.add_block.Goals as goal

pub returns-clause-told : goal.returns-clause-told
returns-clause-told c =
    let a = c.args in
    λ b R may. added-block a.block.now a.part a.at (λ i. (c.type_inv.block i).fits) may c.slice_of-names.ensures.bytes (c.take_census-n.ensures.told b may.scanned.end may.scanned.taken may.scanned.shows may.clear) (c.absorb-sum.ensures.told R) c.clear.ensures

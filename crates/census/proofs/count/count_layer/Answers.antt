use Rattle.std.proofs.Common.{refl, arith}
use Rattle.mapblock.specs.Params.{id_in}
use Rattle.census.proofs.Raises.{table}
use Rattle.census.proofs.ClipRows.{layer-first, layer-on, layer-last}
use Rattle.census.proofs.count.count_layer.Goals as goal

pub loop-y-init : goal.loop-y-init
loop-y-init c =
    (c.args.clip.first.1, layer-first c.args.clip _ c.args.z (table c.told-counts c.fits-counts))

pub returns : goal.returns
returns c =
    let l = c.loop-y in
    layer-last c.args.clip (id_in c.args.version c.args.lists.now) c.args.z l.y (omega arith) l.invariant.0 l.invariant.1

pub loop-y-preserved : goal.loop-y-preserved
loop-y-preserved c =
    let l = c.loop-y in
    (omega (arith, c.args.clip.last.1), layer-on c.args.clip (id_in c.args.version c.args.lists.now) c.args.z l.y _ _ c.requires.0 c.requires.1 l.auto.y (omega arith) refl refl l.invariant.1 c.count_row.ensures)

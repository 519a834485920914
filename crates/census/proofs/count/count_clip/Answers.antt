use Rattle.std.proofs.Common.{arith}
use Rattle.mapblock.specs.Params.{id_in}
use Rattle.census.proofs.Raises.{table}
use Rattle.census.proofs.ClipRows.{clip-first, clip-on, clip-last}
use Rattle.census.proofs.count.count_clip.Goals as goal

pub loop-z-init : goal.loop-z-init
loop-z-init c =
    (c.args.clip.first.2, clip-first c.args.clip _ (table c.told-counts c.fits-counts))

pub loop-z-preserved : goal.loop-z-preserved
loop-z-preserved c =
    let l = c.loop-z in
    (omega (arith, c.args.clip.last.2), clip-on c.args.clip (id_in c.args.version c.args.lists.now) l.z l.invariant.1 c.count_layer.ensures)

pub returns : goal.returns
returns c =
    let l = c.loop-z in
    clip-last c.args.clip (id_in c.args.version c.args.lists.now) l.z (omega arith) l.invariant.0 l.invariant.1

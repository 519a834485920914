use Rattle.wire.proofs.Puts.{put-number}
use Rattle.mapblock.proofs.TaggedLists.{list-version-bytes-old, list-version-bytes-new}
use Rattle.block_writer.proofs.write.put_list_version.Goals as goal

pub returns-then-version-lt23 : goal.returns-then-version-lt23
returns-then-version-lt23 c =
    let e = list-version-bytes-old c.if-version-lt23.true in
    rw e (put-number c.args.at 2 c.args.value (rw e at c.requires) (rw c.from.ensures at c.put_number.ensures))

pub returns : goal.returns
returns c =
    let e = list-version-bytes-new c.if-version-lt23.false in
    rw e (put-number c.args.at 1 c.args.value (rw e at c.requires) c.put_number-2.ensures)

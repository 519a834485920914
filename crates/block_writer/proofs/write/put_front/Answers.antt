use mathlib.Core.Bool.{cond}
use mathlib.Core.List.{[]}
use native.Mathlib.Nat.{zero-add}
use Rattle.mapblock.specs.Layout.{since}
use Rattle.block_writer.specs.Pieces.{mapping_bytes}
use Rattle.wire.proofs.Puts.{put_two}
use Rattle.block_writer.proofs.write.put_front.Goals as goal

pub returns : goal.returns
returns c =
    let a = c.args in
    let second = cond (since 29 a.parts.now.head.version) (mapping_bytes a.parts.now.head.timestamp a.counts.names a.parts.now.names.now) [] in
    put_two (rw zero-add c.requires) c.put_opening-opened.ensures (λ r. put_two {u = second} r c.put_name_mapping_if-named.ensures (λ _. c.put_nodes.ensures))

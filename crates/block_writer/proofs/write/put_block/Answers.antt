use native.Mathlib.Nat.{zero-add}
use native.Mathlib.Omega.{arith}
use lib.ListN.{length-append}
use Rattle.block_writer.specs.Pieces.{front_bytes, rest_bytes, block_bytes}
use Rattle.wire.proofs.Puts.{put-room, put_two}
use Rattle.block_writer.proofs.write.put_block.Goals as goal

pub put_front-at-requires : goal.put_front-at-requires
unfolding block_bytes
put_front-at-requires c =
    let a = c.args in
    let front = front_bytes a.parts.now.head a.counts.names a.parts.now.names.now a.parts.now.param0.now a.parts.now.param1.now a.parts.now.param2.now in
    let rest = rest_bytes a.parts.now.head a.counts a.parts.now.names.now a.parts.now.metadata.now a.parts.now.objects.now a.parts.now.timers.now in
    omega (arith, c.requires, length-append front rest)

pub put_rest-requires : goal.put_rest-requires
unfolding block_bytes
put_rest-requires c =
    let a = c.args in
    let front = front_bytes a.parts.now.head a.counts.names a.parts.now.names.now a.parts.now.param0.now a.parts.now.param1.now a.parts.now.param2.now in
    let rest = rest_bytes a.parts.now.head a.counts a.parts.now.names.now a.parts.now.metadata.now a.parts.now.objects.now a.parts.now.timers.now in
    put-room {u = front} rest (rw zero-add c.requires) c.put_front-at.ensures

pub returns : goal.returns
unfolding block_bytes
returns c = (put_two (rw zero-add c.requires) c.put_front-at.ensures (λ _. c.put_rest.ensures)).overwrites

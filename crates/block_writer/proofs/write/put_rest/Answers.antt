use mathlib.Core.Bool.{cond}
use mathlib.Core.List.{[]}
use Rattle.mapblock.specs.Layout.{before}
use Rattle.wire.specs.Store.{PutAt}
use Rattle.block_writer.specs.Pieces.{mapping_bytes, early_bytes}
use Rattle.wire.proofs.Puts.{put_two}
use Rattle.block_writer.proofs.PutPieces.{before-29}
use Rattle.block_writer.proofs.write.put_rest.Goals as goal

pub returns : goal.returns
returns c =
    let a = c.args in
    let h = a.parts.now.head in
    let third = c.put_byte_and_list-third in
    let fourth = c.put_name_mapping_if-fourth in
    let names : PutAt third.result (cond (before 29 h.version) (mapping_bytes h.timestamp a.counts.names a.parts.now.names.now) []) third.new.out fourth.new.out fourth.result = rw (← before-29 h.version) fourth.ensures in
    put_two c.requires c.put_metadata-first.ensures (λ r.
    put_two {u = early_bytes h.version h.timer a.counts.timers a.parts.now.timers.now} r c.put_early-second.ensures (λ s.
    put_two s third.ensures (λ t.
    put_two t names (λ _. c.put_late.ensures))))

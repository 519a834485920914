use Prim.Native.Nat.{◌+◌, ◌≤◌}
use mathlib.Core.List.{◌++◌}
use native.Mathlib.Omega.{arith}
use lib.ListN.{length}
use Rattle.wire.specs.Bytes.{to_be}
use Rattle.mapblock.specs.Layout.{has_timers}
use Rattle.block_writer.specs.Pieces.{list_if}
use Rattle.wire.proofs.Puts.{put-number, put_two}
use Rattle.block_writer.proofs.PutPieces.{early-24, early-23}
use Rattle.block_writer.proofs.write.put_early.Goals as goal

pub returns-in-24 : goal.returns-in-24
returns-in-24 c =
    let a = c.args in
    let e = early-24 a.head.version a.head.timer a.count a.rows.now c.in-24.is in
    let room : a.at + length (to_be 1 a.head.timer ++ list_if (has_timers a.head.timer) a.count a.rows.now) ≤ length a.out.now = rw e at c.requires in
    rw e (put_two room (put-number a.at 1 a.head.timer (omega (arith, room)) c.put_number.ensures) (λ _. c.put_list_if.ensures))

pub returns-in-23 : goal.returns-in-23
returns-in-23 c =
    let a = c.args in
    let e = early-23 a.head.version a.head.timer a.count a.rows.now c.in-23.is in
    rw e (put-number a.at 1 0 (rw e at c.requires) c.put_number-in-23.ensures)

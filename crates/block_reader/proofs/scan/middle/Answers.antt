use Prim.Native.Nat.{◌+◌, ◌≤◌}
use mathlib.Core.Path.{◌≡◌}
use native.Mathlib.Omega.{arith}
use lib.ListN.{length, drop, length-drop}
use Rattle.wire.specs.Read.{refused}
use Rattle.mapblock.proofs.Leaves.{told_in}
use Rattle.mapblock.specs.Layout.{metadata, early_timers, objects}
use Rattle.mapblock.specs.Told.{list_form_in, timer_byte}
use Rattle.block_reader.specs.Scan.{middle}
use Rattle.block_reader.proofs.Refusals.{reach_err, reach_ok, reading_err, reading_ok}
use Rattle.block_reader.proofs.Endings.{middle-no-metadata, middle-no-early, middle-no-objects, middle-done}
use Rattle.wire.proofs.Handed.{handed_on}
use Rattle.block_reader.proofs.scan.middle.Goals as goal

pub returns-in_err-form : goal.returns-in_err-form
returns-in_err-form c = rw (handed_on _ c.from_residual.ensures.1) (middle-no-metadata c.args.version c.args.s.now c.in_err-form.ensures)

pub returns-in_err-timer : goal.returns-in_err-timer
returns-in_err-timer c =
    let s = c.args.s.now in
    let v = c.args.version in
    let rows = c.in_ok-form.ensures in
    rw (handed_on _ c.from_residual-in_err-timer.ensures.1)
    (reading_err (early_timers v) s c.in_ok-form.metadata timer_byte _ (λ w. (middle v).read s ≡ refused w.fault w.offset) c.in_err-timer.ensures c.early_timers.ensures (told_in list_form_in (metadata v) s rows) (omega arith)
    (λ e p k. middle-no-early v s rows k))

pub returns-in_err-objects : goal.returns-in_err-objects
returns-in_err-objects c =
    let s = c.args.s.now in
    let v = c.args.version in
    let m = c.in_ok-form.metadata in
    let rows = c.in_ok-form.ensures in
    let timers = reading_ok (early_timers v) s c.in_ok-form.metadata timer_byte _ c.in_ok-timer.ensures c.early_timers.ensures in
    let inside : m + c.in_ok-timer.early ≤ length s = omega (arith, told_in list_form_in (metadata v) s rows, length-drop m s, told_in timer_byte (early_timers v) (drop m s) timers) in
    rw (handed_on _ c.from_residual-in_err-objects.ensures.1)
    (reach_err objects s (m + c.in_ok-timer.early) _ (λ w. (middle v).read s ≡ refused w.fault w.offset) c.in_err-objects.ensures c.object_list.ensures inside (omega arith) (λ e p k. middle-no-objects v s rows timers k))

pub returns : goal.returns
returns c =
    let s = c.args.s.now in
    let v = c.args.version in
    let timers = reading_ok (early_timers v) s c.in_ok-form.metadata timer_byte _ c.in_ok-timer.ensures c.early_timers.ensures in
    middle-done v s c.in_ok-form.ensures timers (reach_ok objects s (c.in_ok-form.metadata + c.in_ok-timer.early) _ c.in_ok-objects.ensures c.object_list.ensures) (λ i. (c.type_inv.s i).fits)

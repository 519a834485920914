use Rattle.mapblock.proofs.OtherRows.{timer-no-position, timer-no-timeout, timer-no-elapsed, timer-done}
use Rattle.mapblock.proofs.Leaves.{by-signed}
use Rattle.wire.specs.Told.{told_number}
use Rattle.mapblock.proofs.Refusals.{none_becomes}
use mathlib.Core.Path.{refl, sym}
use Rattle.wire.specs.Formats.{half32}
use mir.ValLaws.{to_z-of_z}
use mir.Syntax.{w32}
use mir.Val.{SFits}
use borrow.Author.Rules.{rules}
use Rattle.wire.proofs.Handed.{handed_on}
use Rattle.mapblock.proofs.timers.timer_row.Goals as goal

pub returns-in_err-position : goal.returns-in_err-position
returns-in_err-position c = rw (handed_on _ c.from_residual.ensures.1) (timer-no-position _ (sym c.in_err-position.ensures))

pub returns-in_err-timeout : goal.returns-in_err-timeout
returns-in_err-timeout c =
    let position = sym c.in_ok-position.ensures in
    let none = c.in_err-timeout.ensures in
    rw (none_becomes _ c.from_residual-in_err-timeout.ensures.1 none.value none.ok_part c.ends.ensures) (timer-no-timeout _ position (by-signed 4 half32 refl _ (told_number 4) c.number_at.ensures none.ok_part))

pub returns-in_err-elapsed : goal.returns-in_err-elapsed
returns-in_err-elapsed c =
    let position = sym c.in_ok-position.ensures in
    let timeout = by-signed 4 half32 refl _ (told_number 4) c.number_at.ensures c.in_ok-timeout.ensures.ok_part in
    let none = c.in_err-elapsed.ensures in
    rw (none_becomes _ c.from_residual-in_err-elapsed.ensures.1 none.value none.ok_part c.ends-2.ensures) (timer-no-elapsed _ position timeout (by-signed 4 half32 refl _ (told_number 4) c.number_at-2.ensures none.ok_part))

pub returns : goal.returns
returns c =
    let position = sym c.in_ok-position.ensures in
    let timeout = by-signed 4 half32 refl _ (told_number 4) c.number_at.ensures c.in_ok-timeout.ensures.ok_part in
    let elapsed = by-signed 4 half32 refl _ (told_number 4) c.number_at-2.ensures c.in_ok-elapsed.ensures.ok_part in
    let fits-x : SFits w32 c.in_ok-timeout.timeout = search rules in
    let fits-y : SFits w32 c.in_ok-elapsed.elapsed = search rules in
    rw (to_z-of_z w32 _ fits-x, to_z-of_z w32 _ fits-y) (timer-done _ position timeout elapsed)

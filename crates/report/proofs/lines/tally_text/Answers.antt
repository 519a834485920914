use mathlib.Core.Path.{ap, sym, ◌∙◌}
use Rattle.std.specs.Prelude.{Some}
use Rattle.report.proofs.Telling.{tally-bad, tally-long, tally-headless, head-room, tally-short, lines-room, tally-all}
use Rattle.wire.proofs.Handed.{none_handed}
use Rattle.report.proofs.lines.tally_text.Goals as goal

pub returns-in_err-count : goal.returns-in_err-count
returns-in_err-count c =
    let none = c.in_err-count.ensures in
    rw (none_handed _ c.from_residual.ensures.1 none.value none.ok_part) (tally-bad c.args.t.now c.args.out.now c.check.ensures none.ok_part)

pub slice_bounds-body-count : goal.slice_bounds-body-count
slice_bounds-body-count c = tally-long c.args.t.now c.args.out.now c.check.ensures (λ i. (c.type_inv.t i).fits) c.in_ok-count.ensures.ok_part

pub slice_bounds-body-start : goal.slice_bounds-body-start
slice_bounds-body-start c = tally-long c.args.t.now c.args.out.now c.check.ensures (λ i. (c.type_inv.t i).fits) c.in_ok-count.ensures.ok_part

pub returns-in_err-room : goal.returns-in_err-room
returns-in_err-room c =
    let stated = c.in_ok-count.ensures.ok_part ∙ ap Some (sym c.from-rows.ensures) in
    let none = c.in_err-room.ensures in
    rw (none_handed _ c.from_residual-in_err-room.ensures.1 none.value none.ok_part)
    (tally-headless c.args.t.now c.args.out.now c.check.ensures (λ i. (c.type_inv.t i).fits) stated c.decimal_length.ensures.told (rw none.ok_part at c.checked_sub.ensures))

pub returns-then-not-lines_fit : goal.returns-then-not-lines_fit
returns-then-not-lines_fit c =
    let stated = c.in_ok-count.ensures.ok_part ∙ ap Some (sym c.from-rows.ensures) in
    let room = rw c.in_ok-room.ensures.ok_part at c.checked_sub.ensures in
    tally-short c.args.t.now c.args.out.now c.check.ensures (λ i. (c.type_inv.t i).fits) stated c.decimal_length.ensures.told room c.lines_fit.ensures c.if-not-lines_fit.true

pub put_opening-at-requires : goal.put_opening-at-requires
put_opening-at-requires c =
    let stated = c.in_ok-count.ensures.ok_part ∙ ap Some (sym c.from-rows.ensures) in
    let room = rw c.in_ok-room.ensures.ok_part at c.checked_sub.ensures in
    head-room c.args.t.now c.args.out.now c.check.ensures (λ i. (c.type_inv.t i).fits) stated c.decimal_length.ensures.told room

pub put_lines-requires : goal.put_lines-requires
put_lines-requires c =
    let stated = c.in_ok-count.ensures.ok_part ∙ ap Some (sym c.from-rows.ensures) in
    let room = rw c.in_ok-room.ensures.ok_part at c.checked_sub.ensures in
    lines-room c.args.t.now c.args.out.now c.check.ensures (λ i. (c.type_inv.t i).fits) stated c.decimal_length.ensures.told room c.lines_fit.ensures c.if-not-lines_fit.false c.put_opening-at.ensures

pub returns : goal.returns
returns c =
    let stated = c.in_ok-count.ensures.ok_part ∙ ap Some (sym c.from-rows.ensures) in
    let room = rw c.in_ok-room.ensures.ok_part at c.checked_sub.ensures in
    tally-all c.args.t.now c.args.out.now c.check.ensures (λ i. (c.type_inv.t i).fits) stated c.decimal_length.ensures.told room c.lines_fit.ensures c.if-not-lines_fit.false c.put_opening-at.ensures c.put_lines.ensures

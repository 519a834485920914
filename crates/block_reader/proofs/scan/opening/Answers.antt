use mathlib.Core.Path.{sym, ◌∙◌}
use Rattle.wire.specs.Told.{told_number}
use Rattle.mapblock.proofs.Leaves.{by_number}
use Rattle.mapblock.proofs.Refusals.{none_becomes}
use Rattle.block_reader.proofs.Fronts.{opening-ends, opening-other, opening-no-flags, opening-unlit, opening-no-light, opening-lit}
use Rattle.block_reader.proofs.scan.opening.Goals as goal

pub returns-in_err-version : goal.returns-in_err-version
returns-in_err-version c =
    let no = c.in_err-version.ensures in
    rw (none_becomes _ c.from_residual.ensures.1 no.value no.ok_part c.ends.ensures) (sym (opening-ends _ (by_number 1 _ (told_number 1) c.number_at.ensures no.ok_part)))

pub returns-then-not-is_version : goal.returns-then-not-is_version
returns-then-not-is_version c =
    sym (opening-other _ (by_number 1 _ (told_number 1) c.number_at.ensures c.in_ok-version.ensures.ok_part) (sym c.is_version.ensures ∙ c.if-not-is_version.true))

pub returns-in_err-flags : goal.returns-in_err-flags
returns-in_err-flags c =
    let version = by_number 1 _ (told_number 1) c.number_at.ensures c.in_ok-version.ensures.ok_part in
    let known = sym c.is_version.ensures ∙ c.if-not-is_version.false in
    let no = c.in_err-flags.ensures in
    rw (none_becomes _ c.from_residual-in_err-flags.ensures.1 no.value no.ok_part c.ends-2.ensures)
    (sym (opening-no-flags _ version known (by_number 1 _ (told_number 1) c.number_at-2.ensures no.ok_part)))

pub returns-then-version-lt27 : goal.returns-then-version-lt27
returns-then-version-lt27 c =
    let version = by_number 1 _ (told_number 1) c.number_at.ensures c.in_ok-version.ensures.ok_part in
    let known = sym c.is_version.ensures ∙ c.if-not-is_version.false in
    let flags = by_number 1 _ (told_number 1) c.number_at-2.ensures c.in_ok-flags.ensures.ok_part in
    sym (opening-unlit _ version known flags c.if-version-lt27.true)

pub returns-in_err-lighting : goal.returns-in_err-lighting
returns-in_err-lighting c =
    let version = by_number 1 _ (told_number 1) c.number_at.ensures c.in_ok-version.ensures.ok_part in
    let known = sym c.is_version.ensures ∙ c.if-not-is_version.false in
    let flags = by_number 1 _ (told_number 1) c.number_at-2.ensures c.in_ok-flags.ensures.ok_part in
    let no = c.in_err-lighting.ensures in
    rw (none_becomes _ c.from_residual-in_err-lighting.ensures.1 no.value no.ok_part c.ends-3.ensures)
    (sym (opening-no-light _ version known flags c.if-version-lt27.false (by_number 2 _ (told_number 2) c.number_at-3.ensures no.ok_part)))

pub returns : goal.returns
returns c =
    let version = by_number 1 _ (told_number 1) c.number_at.ensures c.in_ok-version.ensures.ok_part in
    let known = sym c.is_version.ensures ∙ c.if-not-is_version.false in
    let flags = by_number 1 _ (told_number 1) c.number_at-2.ensures c.in_ok-flags.ensures.ok_part in
    sym (opening-lit _ version known flags c.if-version-lt27.false (by_number 2 _ (told_number 2) c.number_at-3.ensures c.in_ok-lighting.ensures.ok_part))

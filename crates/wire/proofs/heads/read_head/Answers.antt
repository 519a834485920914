use mathlib.Core.Path.{ap, sym, ◌∙◌}
use Rattle.wire.specs.Read.{to_option-is}
use Rattle.wire.specs.Formats.{u32}
use Rattle.wire.specs.Told.{short, told_head}
use Rattle.wire.proofs.Headed.{behind_head, headed-unmarked, headed-unversioned, headed-other, headed-on, head-told}
use Rattle.wire.proofs.heads.read_head.Goals as goal

pub returns-then-not-mark_at : goal.returns-then-not-mark_at
returns-then-not-mark_at c = let a = c.args in to_option-is (headed-unmarked a.mark.now c.told-mark 1 a.s.now short u32 (sym c.if-not-mark_at.ensures))

pub returns-in_err-version : goal.returns-in_err-version
returns-in_err-version c =
    let a = c.args in
    ap told_head c.from_residual.ensures
    ∙ to_option-is (headed-unversioned a.mark.now c.told-mark 1 a.s.now short u32 (sym c.if-not-mark_at.ensures) c.in_err-version.ensures)

pub returns-then-version-ne-VERSION : goal.returns-then-version-ne-VERSION
returns-then-version-ne-VERSION c =
    let a = c.args in
    to_option-is (headed-other a.mark.now c.told-mark 1 a.s.now short u32 (sym c.if-not-mark_at.ensures) c.in_ok-version.ensures c.if-version-ne-VERSION.true)

pub returns : goal.returns
returns c =
    let a = c.args in
    head-told c.number_at-2.result
    ∙ to_option-is (headed-on a.mark.now c.told-mark 1 a.s.now short u32 (sym c.if-not-mark_at.ensures) c.in_ok-version.ensures c.if-version-ne-VERSION.false ∙ ap behind_head (sym c.number_at-2.ensures))

use native.Mathlib.Omega.{arith}
use mathlib.Core.Path.{◌≡◌, refl, sym, ◌∙◌}
use mathlib.Core.Bool.{true, true≢false}
use Prim.Native.Nat.{◌≤◌}
use Rattle.mapblock.proofs.MetadataRows.{variable-refused, variable-bare, private-ends, private-other, private-done}
use Rattle.mapblock.proofs.Leaves.{by_number}
use Rattle.wire.specs.Told.{told_number}
use Rattle.mapblock.proofs.Refusals.{none_becomes}
use Rattle.mapblock.proofs.metadata.variable.Goals.{else-values-via-then-values+else-private-gt1, else-values-via-else-values}
use Rattle.wire.proofs.Handed.{handed_on}
use Rattle.mapblock.proofs.metadata.variable.Goals as goal

pub returns-in_err-at : goal.returns-in_err-at
returns-in_err-at c = rw (handed_on _ c.from_residual.ensures.1) (variable-refused _ _ _ c.in_err-at.ensures refl)

pub returns-then-version-lt28 : goal.returns-then-version-lt28
returns-then-version-lt28 c = variable-bare _ _ _ c.in_ok-at.ensures c.if-version-lt28.true

pub returns-in_err-private : goal.returns-in_err-private
returns-in_err-private c =
    let none = c.in_err-private.ensures in
    rw (none_becomes _ c.from_residual-in_err-private.ensures.1 none.value none.ok_part c.ends.ensures) (private-ends _ _ _ c.in_ok-at.ensures (omega arith) (by_number 1 _ (told_number 1) c.number_at.ensures none.ok_part))

pub returns-then-private-gt1 : goal.returns-then-private-gt1
returns-then-private-gt1 c =
    let byte = by_number 1 _ (told_number 1) c.number_at.ensures c.in_ok-private.ensures.ok_part in
    private-other _ _ _ c.in_ok-at.ensures (omega arith) c.if-values.true byte c.if-private-gt1.true

pub returns : goal.returns
returns c =
    let byte = by_number 1 _ (told_number 1) c.number_at.ensures c.in_ok-private.ensures.ok_part in
    let passed : c.args.values ≡ true → c.in_ok-private.private ≤ 1 = λ t. elim c.else-values.branch [ else-values-via-then-values+else-private-gt1 w ↦ w.if-private-gt1.false | else-values-via-else-values w ↦ absurd (true≢false (sym t ∙ w.if-values.false)) ] in
    private-done _ _ _ c.in_ok-at.ensures (omega arith) byte passed

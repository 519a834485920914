use mathlib.Core.Path.{sym, ◌∙◌}
use Rattle.mapblock.specs.Layout.{list_version_bytes}
use Rattle.mapblock.proofs.Leaves.{by_number}
use Rattle.wire.specs.Told.{told_number}
use Rattle.mapblock.proofs.TaggedLists.{metadata-refused, metadata-counted, metadata-zero, metadata-other}
use Rattle.mapblock.proofs.Refusals.{none_becomes}
use Rattle.mapblock.proofs.lists.metadata_list.Goals as goal

pub returns-in_err-v : goal.returns-in_err-v
returns-in_err-v c =
    let a = c.args in
    let none = c.in_err-v.ensures in
    rw (none_becomes _ c.from_residual.ensures.1 none.value none.ok_part c.ends.ensures)
    (metadata-refused _ _ (by_number (list_version_bytes a.version) _ (told_number (list_version_bytes a.version)) c.list_version_at.ensures none.ok_part))

pub returns-then-v-from : goal.returns-then-v-from
returns-then-v-from c =
    let a = c.args in
    let number = by_number (list_version_bytes a.version) _ (told_number (list_version_bytes a.version)) c.list_version_at.ensures c.in_ok-v.ensures.ok_part in
    rw c.list_version_length-at.ensures at c.list_behind.ensures ∙ metadata-counted _ _ number (c.if-v-from.true ∙ c.from.ensures ∙ c.list_version.ensures)

pub returns-then-is_zero_form : goal.returns-then-is_zero_form
returns-then-is_zero_form c =
    let a = c.args in
    let number = by_number (list_version_bytes a.version) _ (told_number (list_version_bytes a.version)) c.list_version_at.ensures c.in_ok-v.ensures.ok_part in
    rw c.list_version_length-at.ensures (metadata-zero _ _ number (sym c.is_zero_form.ensures ∙ c.if-is_zero_form.true))

pub returns : goal.returns
returns c =
    let a = c.args in
    let number = by_number (list_version_bytes a.version) _ (told_number (list_version_bytes a.version)) c.list_version_at.ensures c.in_ok-v.ensures.ok_part in
    rw c.from-2.ensures (metadata-other _ _ number (λ e. c.if-v-from.false (e ∙ sym c.list_version.ensures ∙ sym c.from.ensures)) (sym c.is_zero_form.ensures ∙ c.if-is_zero_form.false))

use borrow.Author.Rules.{rules}
use borrow.Author.Tests.{ne_eqb, eq-eqb}
use Prim.Native.Nat.{◌<◌}
use mathlib.Core.Path.{ap, sym, ◌∙◌}
use Rattle.wire.specs.Read.{map_read}
use Rattle.wire.specs.Told.{told_number}
use Rattle.mapblock.specs.Rows.{name_fields}
use Rattle.mapblock.proofs.NameRows.{row-no-id, row-twice, row-as-alone}
use Rattle.mapblock.proofs.Leaves.{by_number}
use Rattle.mapblock.proofs.Refusals.{none_becomes}
use Rattle.mapblock.proofs.names.new_name_row.Goals as goal

pub returns-in_err-id : goal.returns-in_err-id
returns-in_err-id c =
    let none = c.in_err-id.ensures in
    λ free seen t. rw (none_becomes _ c.from_residual.ensures.1 none.value none.ok_part c.ends.ensures) (sym (ap (map_read name_fields) (row-no-id free seen _ (by_number 2 _ (told_number 2) c.number_at.ensures none.ok_part))))

pub returns-then-ids-from-ne0 : goal.returns-then-ids-from-ne0
returns-then-ids-from-ne0 c =
    let id = by_number 2 _ (told_number 2) c.number_at.ensures c.in_ok-id.ensures.ok_part in
    let k : c.in_ok-id.id < 65536 = search rules in
    λ free seen t. rw c.from-then-ids-from-ne0.ensures (sym (ap (map_read name_fields) (row-twice free seen _ id (t.tells _ k ∙ ne_eqb _ _ (rw c.from.ensures at c.if-ids-from-ne0.true)))))

pub returns : goal.returns
returns c =
    let id = by_number 2 _ (told_number 2) c.number_at.ensures c.in_ok-id.ensures.ok_part in
    let k : c.in_ok-id.id < 65536 = search rules in
    λ free seen t. c.name_row.ensures ∙ ap (map_read name_fields) (row-as-alone free seen _ id (t.tells _ k ∙ eq-eqb _ _ (rw c.from.ensures at c.if-ids-from-ne0.false)))

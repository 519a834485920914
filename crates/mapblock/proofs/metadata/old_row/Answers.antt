use Rattle.mapblock.proofs.MetadataRows.{kind-ends, content-ends, content-done}
use Rattle.mapblock.proofs.Leaves.{by_number}
use Rattle.wire.specs.Told.{told_number}
use Rattle.mapblock.proofs.Refusals.{none_becomes, at_refused, at_done}
use Rattle.wire.proofs.Handed.{handed_on}
use Rattle.mapblock.proofs.metadata.old_row.Goals as goal

pub returns-in_err-kind : goal.returns-in_err-kind
returns-in_err-kind c =
    let p = c.requires in
    let none = c.in_err-kind.ensures in
    rw (none_becomes _ c.from_residual.ensures.1 none.value none.ok_part c.ends.ensures) (kind-ends _ _ _ p.1 p.0 (by_number 2 _ (told_number 2) c.number_at.ensures none.ok_part))

pub returns-in_err-length : goal.returns-in_err-length
returns-in_err-length c =
    let p = c.requires in
    let kind = by_number 2 _ (told_number 2) c.number_at.ensures c.in_ok-kind.ensures.ok_part in
    rw (handed_on _ c.from_residual-in_err-length.ensures.1) (at_refused 4 _ c.in_err-length.ensures (λ q e. content-ends _ _ _ p.1 p.0 kind e))

pub returns : goal.returns
returns c =
    let p = c.requires in
    let kind = by_number 2 _ (told_number 2) c.number_at.ensures c.in_ok-kind.ensures.ok_part in
    content-done _ _ _ p.1 p.0 kind (at_done 4 _ c.in_ok-length.ensures)

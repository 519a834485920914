use Rattle.mapblock.proofs.NameRows.{alone-no-id, alone-no-name, alone-done}
use Rattle.mapblock.proofs.Refusals.{none_becomes, at_refused, at_done}
use Rattle.mapblock.proofs.Leaves.{by_number}
use Rattle.wire.specs.Told.{told_number}
use Rattle.wire.proofs.Handed.{handed_on}
use Rattle.mapblock.proofs.names.name_row.Goals as goal

pub returns-in_err-id : goal.returns-in_err-id
returns-in_err-id c =
    let no_id = c.in_err-id.ensures in
    rw (none_becomes _ c.from_residual.ensures.1 no_id.value no_id.ok_part c.ends.ensures) (alone-no-id _ (by_number 2 _ (told_number 2) c.number_at.ensures no_id.ok_part))

pub returns-in_err-length : goal.returns-in_err-length
returns-in_err-length c =
    let id = by_number 2 _ (told_number 2) c.number_at.ensures c.in_ok-id.ensures.ok_part in
    rw (handed_on _ c.from_residual-in_err-length.ensures.1) (at_refused 2 _ c.in_err-length.ensures (λ q k. alone-no-name _ id k))

pub returns : goal.returns
returns c =
    let id = by_number 2 _ (told_number 2) c.number_at.ensures c.in_ok-id.ensures.ok_part in
    alone-done _ id (at_done 2 _ c.in_ok-length.ensures)

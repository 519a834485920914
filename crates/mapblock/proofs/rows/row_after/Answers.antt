use borrow.Author.Rules.{rules}
use Rattle.mapblock.proofs.RowLists.{row-stops, row_goes, row-bare}
use Rattle.wire.proofs.Handed.{handed_on}
use Rattle.mapblock.proofs.rows.row_after.Goals as goal

pub returns-in-Objects : goal.returns-in-Objects
returns-in-Objects c = row-bare _ _ _ _ c.in-Objects.is c.row_alone.ensures

pub returns-in_err-new_position-in-Metadata : goal.returns-in_err-new_position-in-Metadata
returns-in_err-new_position-in-Metadata c =
    rw (handed_on _ c.from_residual.ensures.1) (row-stops _ _ _ _ _ (search rules) c.in_err-new_position-in-Metadata.ensures)

pub returns-in_ok-new_position-in-Metadata : goal.returns-in_ok-new_position-in-Metadata
returns-in_ok-new_position-in-Metadata c = row_goes _ _ _ _ _ c.in_ok-new_position-in-Metadata.ensures c.row_alone-in-Metadata.ensures

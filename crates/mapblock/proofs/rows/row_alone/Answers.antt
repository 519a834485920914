use Rattle.mapblock.specs.Rows.{metadata_fields, object_fields, timer_fields}
use Rattle.mapblock.specs.declared.rows.ListKind.TheVariants as kind
use Rattle.mapblock.proofs.RowLists.{row_told}
use Rattle.wire.proofs.Handed.{handed_on}
use Rattle.mapblock.proofs.rows.row_alone.Goals as goal

pub returns-in_err-metadata_row-in-Metadata : goal.returns-in_err-metadata_row-in-Metadata
returns-in_err-metadata_row-in-Metadata c =
    rw (handed_on _ c.from_residual.ensures.1) (row_told kind.Metadata _ _ (metadata_fields c.args.version) c.in-Metadata.is c.in_err-metadata_row-in-Metadata.ensures)

pub returns-in_ok-metadata_row-in-Metadata : goal.returns-in_ok-metadata_row-in-Metadata
returns-in_ok-metadata_row-in-Metadata c =
    row_told kind.Metadata _ _ (metadata_fields c.args.version) c.in-Metadata.is c.in_ok-metadata_row-in-Metadata.ensures

pub returns-in_err-object_row-in-Objects : goal.returns-in_err-object_row-in-Objects
returns-in_err-object_row-in-Objects c =
    rw (handed_on _ c.from_residual-in_err-object_row-in-Objects.ensures.1) (row_told kind.Objects _ _ object_fields c.in-Objects.is c.in_err-object_row-in-Objects.ensures)

pub returns-in_ok-object_row-in-Objects : goal.returns-in_ok-object_row-in-Objects
returns-in_ok-object_row-in-Objects c = row_told kind.Objects _ _ object_fields c.in-Objects.is c.in_ok-object_row-in-Objects.ensures

pub returns-in_err-timer_row-in-Timers : goal.returns-in_err-timer_row-in-Timers
returns-in_err-timer_row-in-Timers c =
    rw (handed_on _ c.from_residual-in_err-timer_row-in-Timers.ensures.1) (row_told kind.Timers _ _ timer_fields c.in-Timers.is c.in_err-timer_row-in-Timers.ensures)

pub returns-in_ok-timer_row-in-Timers : goal.returns-in_ok-timer_row-in-Timers
returns-in_ok-timer_row-in-Timers c = row_told kind.Timers _ _ timer_fields c.in-Timers.is c.in_ok-timer_row-in-Timers.ensures

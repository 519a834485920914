use Rattle.std.proofs.Common.{refl, rules}
use Rattle.sheetcount_lib.proofs.Whole.{never-bad}
use Rattle.sheetcount_lib.proofs.reading.count_sheet.Goals as goal

pub returns-in_err-progress : goal.returns-in_err-progress
returns-in_err-progress g c = never-bad _ _ (search rules) refl c.in_err-progress.field-0.0 c.in_err-progress.ensures

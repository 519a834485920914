use Rattle.std.proofs.Common.{ap, ◌∙◌}
use Rattle.meter.specs.SheetTold.{told_sheet}
use Rattle.sheetcount_lib.proofs.Nexts.{no-tally}
use Rattle.sheetcount_lib.proofs.Shown.{refused-shown, tally-shown}
use Rattle.sheetcount_lib.proofs.put_answer.Goals as goal

pub returns-in-Ok : goal.returns-in-Ok
returns-in-Ok c k =
    tally-shown k (ap told_sheet c.in-Ok.is) c.tally_text.result c.put_length.result c.args.text.now c.tally_text.new.out c.told-text c.put_length.ensures c.tally_text.ensures.0 c.tally_text.ensures.1

pub returns-in-Err : goal.returns-in-Err
returns-in-Err c k =
    let r = no-tally c.in-Err.error in
    refused-shown k c.put_refusal.result c.put_refusal.new.text (ap told_sheet c.in-Err.is ∙ r.3) (c.put_refusal.ensures r.0 r.1 r.2 r.3)

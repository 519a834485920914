use Rattle.report.proofs.Texts.{opening-put}
use Rattle.report.proofs.lines.put_opening.Goals as goal

pub returns : goal.returns
returns c =
    let put = c.put_decimal-end.ensures in
    opening-put c.args.rows _ put.told c.requires c.put_bytes.ensures put.out c.put_bytes-2.ensures

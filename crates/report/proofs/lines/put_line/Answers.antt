use native.Mathlib.Omega.{arith}
use Rattle.report.proofs.Texts.{line-end, line-put}
use Rattle.report.proofs.lines.put_line.Goals as goal

pub overflow_add-end-2 : goal.overflow_add-end-2
overflow_add-end-2 c = omega (arith, line-end _ (record { name = c.args.name.now; count = c.args.count }) c.put_decimal.ensures.told c.args.at c.requires)

pub overflow_add-result : goal.overflow_add-result
overflow_add-result c = omega (arith, line-end _ (record { name = c.args.name.now; count = c.args.count }) c.put_decimal.ensures.told c.args.at c.requires)

pub returns : goal.returns
returns c =
    let put = c.put_decimal.ensures in
    line-put _ (record { name = c.args.name.now; count = c.args.count }) put.told c.args.at c.requires put.out c.put_bytes.ensures c.put_bytes-2.ensures c.put_bytes-3.ensures

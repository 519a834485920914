use Rattle.std.proofs.Common.{◌≡◌, ◌<◌, length, arith, rules}
use Rattle.sheetcount_lib.proofs.Nexts.{ended-more, ended}
use Rattle.sheetcount_lib.proofs.program.end_sheet.Goals as goal

pub returns-then-not-is_empty-clause-told : goal.returns-then-not-is_empty-clause-told
returns-then-not-is_empty-clause-told c =
    let more : 0 < length c.args.rest.now = search rules in
    λ w k l m. ended-more w c.args.rest.now c.args.out.now k more

pub returns-clause-told : goal.returns-clause-told
returns-clause-told c =
    let none : length c.args.rest.now ≡ 0 = search rules in
    λ w k l m. ended w c.args.rest.now c.args.out.now c.finish.new.out c.finish.result none l (c.finish.ensures.told w k (omega (arith, l, m)))

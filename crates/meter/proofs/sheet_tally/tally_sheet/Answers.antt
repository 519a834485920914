use Rattle.std.proofs.Common.{◌≡◌, List, ℕ, length, subst, rules}
use Rattle.std.specs.Prelude.{Err}
use Rattle.wire.proofs.Lists.{rest-is}
use Rattle.wire.specs.Answer.{Answered}
use Rattle.wire.specs.Bytes.{Bytes}
use Rattle.wire.specs.Read.{done, to_option-done, to_option-none}
use Rattle.wire.specs.Told.{told_head}
use Rattle.wire.proofs.Steps.{told-as}
use Rattle.meter.specs.Counting.{by_one}
use Rattle.sheet.specs.Sheet.{sheet_head}
use Rattle.meter.specs.Streaming.{no_records}
use Rattle.meter.specs.SheetTold.{answer_from, told_sheet}
use Rattle.meter.specs.declared.answer.SheetError.TheVariants.{Malformed}
use Rattle.meter.proofs.Carried.{start-matches}
use Rattle.meter.proofs.SheetPuts.{put-headless, head-number, put-records, sheet-stop, sheet-put}
use Rattle.meter.proofs.sheet_tally.tally_sheet.Goals as goal

pub returns-in_err-progress-clause-told : goal.returns-in_err-progress-clause-told
returns-in_err-progress-clause-told c = search (rules, sheet-stop c.args.part c.args.sheet.now c.args.out.now (length c.args.spare.now) _ c.in_err-progress.ensures)

pub returns-in_err-count-clause-told : goal.returns-in_err-count-clause-told
returns-in_err-count-clause-told c =
    let a = c.args in
    let no = c.in_err-count.ensures in
    search (rules, sheet-put a.part a.sheet.now a.out.now (length a.spare.now) (Err (Malformed 0)) (start-matches _ _ _ a.spare.now c.in_ok-progress.ensures) (λ k f. put-headless a.part _ a.out.now (to_option-none _ (told-as told_head c.sheet_head.ensures no.ok_part))))

pub returns-clause-told : goal.returns-clause-told
returns-clause-told c =
    let a = c.args in
    let sheet = a.sheet.now in
    let out = a.out.now in
    let count = c.in_ok-count.count in
    let r = c.take_records.result in
    let bytes : Bytes sheet = λ i. (c.type_inv.sheet i).fits in
    let headed : sheet_head.read sheet ≡ done count 9 = to_option-done (sheet_head.read sheet) (told-as told_head c.sheet_head.ensures c.in_ok-count.ensures.ok_part) in
    sheet-put a.part sheet out _ r (start-matches _ _ _ a.spare.now c.in_ok-progress.ensures) (λ k f. put-records a.part sheet out bytes headed r
    (subst (λ (l : List ℕ). Answered (told_sheet r) out c.take_records.new.out (answer_from a.part (length out) (no_records by_one) count l)) (rest-is 9 sheet)
    (c.take_records.ensures.told c.new-tables.ensures.ids c.new-tables.ensures.counts (no_records by_one) k (head-number a.part sheet out bytes headed) f)))

use Rattle.std.proofs.Common.{◌≡◌, ℕ, length, ap, ap₂, arith, ◌∙◌}
use Rattle.wire.specs.Answer.{good}
use Rattle.report.specs.Text.{refusal_text_of, refusal_text}
use Rattle.report.proofs.Shorts.{refusal-text-fits}
use Rattle.anowhetele.specs.Answers.{handed}
use Rattle.anowhetele.specs.declared.answer.AnowAnswer.{AnowAnswer}
use Rattle.sheetcount_lib.proofs.Shown.{shown}
use Rattle.sheetcount_lib.proofs.put_refusal.Goals as goal

pub returns : goal.returns
returns c n i o h =
    let room = length c.args.text.now in
    let told = c.sheet_answer-told.result in
    let k = c.sheet_answer-told.ensures ∙ ap handed h in
    let fits : refusal_text_of room told.number told.index ≡ good (refusal_text n i) =
    refusal-text-fits room _ _ (omega (arith, c.told-text)) ∙ ap₂ (λ (x y : ℕ). good (refusal_text x y)) (ap (λ (x : AnowAnswer). x.number) k) (ap (λ (x : AnowAnswer). x.index) k) in
    shown c.refusal_text.result c.put_length.result _ (refusal_text n i) c.args.text.now _ fits c.put_length.ensures c.refusal_text.ensures.0 c.refusal_text.ensures.1

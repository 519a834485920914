use Rattle.report.proofs.Texts.{refusal-short, refusal-all}
use Rattle.report.proofs.refusal.refusal_text.Goals as goal

pub returns-then-out-end : goal.returns-then-out-end
returns-then-out-end c =
    rw⁻¹ (c.from-number.ensures, c.from-index.ensures) (refusal-short _ _ _ _ c.decimal_length-record.ensures.told c.decimal_length.ensures.told _ c.if-out-end.true)

pub returns : goal.returns
returns c =
    rw⁻¹ (c.from-number.ensures, c.from-index.ensures)
    (refusal-all _ _ _ _ c.decimal_length-record.ensures.told c.decimal_length.ensures.told _ c.if-out-end.false
    c.put_bytes.ensures c.put_decimal.ensures.out c.put_bytes-2.ensures c.put_decimal-2.ensures.out c.put_bytes-3.ensures)

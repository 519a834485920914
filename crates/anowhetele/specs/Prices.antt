-- Bills as a host is handed them: the answer, whose length is 0 since nothing of a length is written, and the two numbers, which are 0 on a refusal.
use Rattle.wire.specs.Answer.{Answer, good, refusal}
use Rattle.pricing.specs.declared.bill.Bill.{Bill}
use Rattle.anowhetele.specs.Answers.{done_with, refused_with}
use Rattle.anowhetele.specs.declared.answer.AnowAnswer.{AnowAnswer}
use Rattle.anowhetele.specs.declared.prices.AnowBill.{AnowBill}

abbrev pub refused_bill : AnowAnswer → AnowBill
refused_bill a = record { answer = a; total = 0; unpriced = 0 }

abbrev pub handed_bill : Answer Bill → AnowBill
handed_bill (good b) = record { answer = done_with 0; total = b.total; unpriced = b.unpriced }
handed_bill (refusal n r o) = refused_bill (refused_with n r o)

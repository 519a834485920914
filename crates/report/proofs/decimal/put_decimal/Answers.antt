use native.Mathlib.Omega.{arith}
use mathlib.Core.Path.{ap, ◌∙◌}
use lib.ListN.{length}
use Rattle.report.proofs.Decimals.{shown}
use Rattle.report.proofs.decimal.put_decimal.Goals as goal

pub returns-clause-told : goal.returns-clause-told
returns-clause-told c = ap length (c.format-digits.ensures.text ∙ shown c.args.n (omega arith))

pub returns-clause-out : goal.returns-clause-out
returns-clause-out c = rw (c.as_bytes.ensures.value, c.format-digits.ensures.text, shown c.args.n (omega arith)) at c.put_bytes.ensures

use native.Mathlib.Omega.{arith}
use mathlib.Core.Path.{ap, ◌∙◌}
use lib.ListN.{length}
use Rattle.report.proofs.Decimals.{shown}
use Rattle.report.proofs.decimal.decimal_length.Goals as goal

pub returns-clause-told : goal.returns-clause-told
returns-clause-told c = ap length (c.format.ensures.text ∙ shown c.args.n (omega arith))

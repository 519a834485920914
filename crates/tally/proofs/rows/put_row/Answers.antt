use mathlib.Core.Path.{sym}
use native.Mathlib.Omega.{arith}
use Rattle.tally.proofs.Opening.{row-long, row-short, row-stored}
use Rattle.tally.proofs.rows.put_row.Goals as goal

pub returns-in_default : goal.returns-in_default
returns-in_default c = sym (row-long _ _ _ (omega (arith, c.in_default.ensures)))

pub returns-then-saturating_sub-name : goal.returns-then-saturating_sub-name
returns-then-saturating_sub-name c = sym (row-short _ _ _ (omega arith) (omega arith))

pub returns : goal.returns
returns c = row-stored _ _ _ (omega arith) _ _ _ (omega arith) (rw (c.in-Ok.ensures.1) at c.put_number.ensures) c.put_bytes.ensures c.put_number-2.ensures

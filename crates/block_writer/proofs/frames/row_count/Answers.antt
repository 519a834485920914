use borrow.Author.Rules.{rules}
use native.Mathlib.Omega.{arith}
use Rattle.wire.proofs.Lists.{rest-is}
use Rattle.block_writer.proofs.RowCounts.{counting-end, counting-over, counting-stop, counting-on}
use Rattle.block_writer.proofs.frames.row_count.Goals as goal

pub returns-in_err-n : goal.returns-in_err-n
returns-in_err-n c = rw c.from_residual.ensures (counting-stop c.loop-rest.invariant (search rules) c.in_err-n.ensures)

pub returns-in_err-count : goal.returns-in_err-count
returns-in_err-count c = rw c.from_residual-in_err-count.ensures (counting-over c.loop-rest.invariant (search rules) (omega (arith, c.in_err-count.ensures)))

pub loop-rest-preserved : goal.loop-rest-preserved
loop-rest-preserved c = search (rules, rest-is, counting-on c.loop-rest.invariant (search rules) (search rules) c.in_ok-n.ensures)

pub returns : goal.returns
returns c = counting-end c.loop-rest.invariant (search rules)

use lib.ListN.{length}
use Rattle.wire.specs.Ranges.{bytes_in}
use Rattle.block_reader.proofs.NodeNames.{Finding}
use Rattle.block_reader.proofs.node.find.Given as goal

abbrev pub invariant-loop-row : goal.invariant-loop-row
invariant-loop-row l = Finding (bytes_in l.block l.fn.names) l.rest l.fn.names.start l.at l.id

abbrev pub decreases-loop-row : goal.decreases-loop-row
decreases-loop-row l = length l.rest

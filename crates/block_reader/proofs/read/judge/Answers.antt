use Rattle.block_reader.proofs.BlockAnswers.{clear-table}
use Rattle.block_reader.proofs.read.judge.Goals as goal

pub returns : goal.returns
returns c = clear-table 65536 c.args.block.now c.scan.ensures.told

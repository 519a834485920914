use Rattle.block_reader.proofs.Zeros.{zeros-are, ones-within}
use Rattle.block_reader.proofs.light.light_count.Goals as goal

pub overflow_sub-result : goal.overflow_sub-result
overflow_sub-result c = ones-within 12 c.args.lighting

pub returns : goal.returns
returns c = zeros-are 12 c.args.lighting

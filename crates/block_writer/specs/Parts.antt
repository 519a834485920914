-- The parts as the code holds them.
use Rattle.block_writer.specs.BlockParts.{BlockParts, block_parts}
use Rattle.block_writer.specs.declared.parts.Parts.{Parts}

abbrev pub parts_of : Parts → BlockParts
parts_of p = block_parts p.head p.param0.now p.param1.now p.param2.now p.names.now p.metadata.now p.objects.now p.timers.now

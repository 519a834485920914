use borrow.Author.Rules.{rules}
use Rattle.block_writer.proofs.measure.measure.Goals as goal

pub measure_parts-requires : goal.measure_parts-requires
measure_parts-requires c = record {
  version = search rules;
  flags = search rules;
  lighting = search rules;
  timestamp = search rules;
  timer = search rules;
  form = search rules;
  param0 = λ i. (c.type_inv.param0 i).fits;
  param1 = λ i. (c.type_inv.param1 i).fits;
  param2 = λ i. (c.type_inv.param2 i).fits;
  names = λ i. (c.type_inv.names i).fits;
  metadata = λ i. (c.type_inv.metadata i).fits;
  objects = λ i. (c.type_inv.objects i).fits;
  timers = λ i. (c.type_inv.timers i).fits;
}

-- The loop goes from one record to the next. Its invariant, `Going`: the tables are clear, and there are bytes, those of the records so far,
-- behind which what is counted is counted from the state that the spare carries, with so many records left.
use Rattle.std.proofs.Common.{◌-◌}
use Rattle.sheetcount_lib.proofs.Going.{Going}
use Rattle.sheetcount_lib.proofs.reading.take_all.Given as goal

abbrev pub invariant-loop : goal.invariant-loop
invariant-loop g l = Going l.count l.buffers.spare l.buffers.tables.ids l.buffers.tables.census.counts (l.count - l.counter) l.now

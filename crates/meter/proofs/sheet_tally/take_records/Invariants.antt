-- The loop walks from one record to the next. Its invariant, `Walking`: what is left of the bytes are bytes, the spare is as long as where the
-- loop began, and from every state that the loop may have begun with there is a state that the spare carries now, with clear tables, from which
-- the records that are left answer what all of them answer.
use Rattle.std.proofs.Common.{◌-◌}
use Rattle.meter.proofs.Walking.{Walking}
use Rattle.meter.proofs.sheet_tally.take_records.Given as goal

abbrev pub invariant-loop : goal.invariant-loop
invariant-loop l =
    Walking l.part l.s l.count l.initial.spare l.initial.now l.initial.tables.ids l.initial.tables.census.counts l.spare l.tables.ids l.tables.census.counts l.rest (l.count - l.counter) l.now

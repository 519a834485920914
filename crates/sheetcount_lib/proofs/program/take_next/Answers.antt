use Rattle.wire.proofs.Handed.{handed_on}
use Rattle.sheetcount_lib.proofs.Nexts.{next-stops, next-told}
use Rattle.sheetcount_lib.proofs.program.take_next.Goals as goal

pub returns-in_err-block_length-clause-told : goal.returns-in_err-block_length-clause-told
returns-in_err-block_length-clause-told c = rw (handed_on _ c.from_residual.ensures.1) (λ w k. next-stops w c.args.s.now k _ c.in_err-block_length.ensures.told)

pub returns-clause-told : goal.returns-clause-told
returns-clause-told c =
    λ w k. next-told w c.args.s.now k c.in_ok-block_length.ensures.told c.take_record.new.tables.census.counts c.take_record.new.spare c.take_record.result (c.take_record.ensures.told w k)

use Rattle.wire.specs.Format.{iso, run}
use Rattle.wire.specs.Formats.{number}
use Rattle.tally.proofs.merge.put_with_count.Goals as goal

pub returns : goal.returns
unfolding number iso run
returns c = rw (← c.put_bytes.ensures) c.put_number.ensures

use native.Mathlib.Omega.{arith}
use Rattle.mapblock.proofs.TaggedLists.{early-never}
use Rattle.mapblock.proofs.lists.early_timers.Goals as goal

pub returns-in_default : goal.returns-in_default
returns-in_default c = early-never _ _ (omega arith) (omega arith)

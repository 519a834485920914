-- What was read lies in the buffer, which holds bytes. The measure: the bytes that the buffer has room for yet.
use Rattle.std.proofs.Common.{length, ◌-◌, ◌≤◌}
use Rattle.wire.specs.Bytes.{Bytes}
use Rattle.sheetcount_lib.proofs.reading.read_bytes.Given as goal

abbrev pub invariant-loop-done : goal.invariant-loop-done
invariant-loop-done g l = (l.done ≤ length l.bytes) × Bytes l.bytes

abbrev pub decreases-loop-done : goal.decreases-loop-done
decreases-loop-done g l = length l.initial.bytes - l.done

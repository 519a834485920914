use Rattle.std.proofs.Common.{◌≡◌, ◌*◌, ◌≤◌, length, drop}
use Rattle.wire.specs.Order.{order}
use Rattle.wire.proofs.order.compare.Given as goal

abbrev pub invariant-loop-word : goal.invariant-loop-word
invariant-loop-word l = (8 * l.word ≤ length l.a) × (8 * l.word ≤ length l.b) × (order (drop (8 * l.word) l.a) (drop (8 * l.word) l.b) ≡ order l.a l.b)

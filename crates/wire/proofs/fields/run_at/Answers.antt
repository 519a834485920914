use mathlib.Core.Path.{ap, sym, ◌∙◌}
use native.Mathlib.Nat.{add-zero}
use lib.ListN.{drop, length-drop}
use Rattle.wire.specs.Told.{short, told_run}
use Rattle.std.proofs.Common.{rules, ◌≡◌}
use Rattle.std.specs.Prelude.{Some, None, Err}
use Rattle.wire.proofs.Numbers.{value_read, ends_read}
use Rattle.wire.proofs.Steps.{prefixed-done, prefixed-ends, prefixed-refused}
use Rattle.wire.proofs.fields.run_at.Goals as goal

pub returns-in_err-bits : goal.returns-in_err-bits
returns-in_err-bits g c =
    let a = c.args in
    let none : c.bits_at.result ≡ None = search rules in
    let is : c.from_residual.result ≡ Err (record { 0 = 0 }) = search rules in
    ap (told_run g.L.Number.WIDTH (drop a.at a.s.now)) is ∙ sym (prefixed-refused short g.L.Number.WIDTH (drop a.at a.s.now) (rw c.WIDTH.ensures at (ends_read {s = drop a.at a.s.now} c.bits_at.ensures none)))

pub returns-then-s-at : goal.returns-then-s-at
returns-then-s-at g c =
    let a = c.args in
    let some : c.bits_at.result ≡ Some c.in_ok-bits.bits = search rules in
    let v = rw c.WIDTH.ensures at (value_read {s = drop a.at a.s.now} c.bits_at.ensures some) in
    rw c.WIDTH-then-s-at.ensures (sym (prefixed-ends short g.L.Number.WIDTH (drop a.at a.s.now) v (rw (length-drop, length-drop, ← c.WIDTH-2.ensures) c.if-s-at.true) ∙ rw add-zero))

pub returns : goal.returns
returns g c =
    let a = c.args in
    let some : c.bits_at.result ≡ Some c.in_ok-bits.bits = search rules in
    let v = rw c.WIDTH.ensures at (value_read {s = drop a.at a.s.now} c.bits_at.ensures some) in
    sym (prefixed-done short g.L.Number.WIDTH (drop a.at a.s.now) v (rw (length-drop, length-drop, ← c.WIDTH-2.ensures) c.if-s-at.false))

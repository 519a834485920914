use Rattle.std.proofs.Common.{◌∙◌, refl}
use Rattle.running_tally.proofs.Absorbing.{still-none, not_short, no_room_lem, all-added}
use Rattle.running_tally.proofs.absorb.absorb.Goals as goal

pub returns-in_err-size-clause-told : goal.returns-in_err-size-clause-told
returns-in_err-size-clause-told c R x =
    let a = c.args in
    rw c.from_residual.ensures (still-none a.s.now a.counts.now a.places.now a.buffer.now a.running (λ i. (c.type_inv.s i).fits) R x c.in_err-size.was)

pub returns-then-buffer-size-clause-told : goal.returns-then-buffer-size-clause-told
returns-then-buffer-size-clause-told c R x =
    let a = c.args in
    not_short a.s.now a.counts.now a.places.now a.buffer.now a.running (λ i. (c.type_inv.s i).fits) R x _ c.in_ok-size.was c.if-buffer-size.true

pub returns-in_err-missing-clause-told : goal.returns-in_err-missing-clause-told
returns-in_err-missing-clause-told c R x =
    let a = c.args in
    rw c.from_residual-in_err-missing.ensures
    (no_room_lem a.s.now a.counts.now a.places.now a.buffer.now a.running (λ i. (c.type_inv.s i).fits) R x _ c.in_ok-size.was _ c.raise.auto.buffer c.in_err-missing.ensures)

pub returns-clause-told : goal.returns-clause-told
returns-clause-told c R x =
    let a = c.args in
    all-added a.s.now a.counts.now a.places.now a.buffer.now a.running (λ i. (c.type_inv.s i).fits) R x _ c.in_ok-size.was _ _ _ c.in_ok-missing.ensures _ _
    (c.spread.auto.buffer ∙ c.raise.auto.buffer) refl c.spread.ensures

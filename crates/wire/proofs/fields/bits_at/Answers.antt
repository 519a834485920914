use Prim.Native.Nat.{ℕ, ◌<◌}
use mathlib.Core.Path.{◌≡◌, refl, ap, sym, subst⁻¹, ◌∙◌}
use native.Mathlib.Numerals.{add-one}
use native.Mathlib.Omega.{arith}
use lib.Dec.{lit<}
use lib.ListN.{length, take, drop, length-drop, drop_of_length-le}
use Rattle.wire.specs.Bytes.{from_be}
use Rattle.wire.specs.Read.{done}
use Rattle.wire.specs.Told.{short, NumberAt}
use Rattle.wire.proofs.Lists.{rest-is}
use Rattle.wire.proofs.Numbers.{front-at}
use Rattle.wire.proofs.Steps.{from_be-on, digit-below, digit-fits, number-done, number-ends}
use Rattle.wire.proofs.fields.bits_at.Goals as goal

pub returns-in_err-get : goal.returns-in_err-get
returns-in_err-get c =
    let a = c.args in
    subst⁻¹ (NumberAt a.k (drop a.at a.s.now)) c.from_residual.ensures
    (record { told = sym (number-ends short _ _ (rw length-drop (omega (arith, c.in_err-get.ensures, c.requires)))); below = tt })

pub returns-in_err-field : goal.returns-in_err-field
returns-in_err-field c =
    let a = c.args in
    subst⁻¹ (NumberAt a.k (drop a.at a.s.now)) c.from_residual-in_err-field.ensures
    (record { told = sym (number-ends short _ _ (omega (arith, c.in_err-field.ensures.lookup.0, ap length (c.in_ok-get.ensures.lookup.0.2 ∙ rest-is a.at a.s.now)))); below = tt })

pub loop-b-init : goal.loop-b-init
loop-b-init c = (lit< tt, refl)

pub overflow_mul-v : goal.overflow_mul-v
overflow_mul-v c = let l = c.loop-b in record { fits = omega (arith, digit-fits l.b-index {b = 0} (omega (arith, c.in_ok-field.ensures.lookup.0.3)) l.invariant.0 (lit< tt)) }

pub overflow_add-v : goal.overflow_add-v
overflow_add-v c =
    let l = c.loop-b in
    record { fits = digit-fits l.b-index (omega (arith, c.in_ok-field.ensures.lookup.0.3)) l.invariant.0 (omega (arith, c.from.ensures)) }

pub loop-b-preserved : goal.loop-b-preserved
loop-b-preserved c =
    let l = c.loop-b in
    let small : c.from.result < 256 = omega (arith, c.from.ensures) in
    (rw add-one (digit-below l.b-index l.invariant.0 small), rw c.from.ensures (sym (from_be-on l.v _ l.b-index c.loop-b-test.true) ∙ l.invariant.1))

pub returns : goal.returns
returns c =
    let a = c.args in
    let l = c.loop-b in
    let size : length c.in_ok-field.field.now ≡ a.k = omega (arith, c.in_ok-field.ensures.lookup.0.3) in
    let all : l.b-index ≡ a.k = omega (arith, size, c.loop-b.auto.b-index-end) in
    let value : l.v ≡ from_be 0 (take a.k (drop a.at a.s.now)) = rw (drop_of_length-le c.in_ok-field.field.now {i = l.b-index} (omega arith), front-at a.s.now a.at a.k c.in_ok-get.ensures.lookup.0.2 c.in_ok-field.ensures.lookup.0.2) at l.invariant.1 in
    record {
      told = sym (number-done short _ _ (omega (arith, c.in_ok-field.ensures.lookup.0.1, ap length (c.in_ok-get.ensures.lookup.0.2 ∙ rest-is a.at a.s.now))) ∙ ap (λ (x : ℕ). done x a.k) (sym value));
      below = rw all at l.invariant.0;
    }

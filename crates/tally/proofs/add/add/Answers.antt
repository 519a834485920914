use Prim.Native.Nat.{◌<◌, ◌≤◌}
use mathlib.Core.Path.{◌≡◌, refl}
use native.Mathlib.Omega.{arith}
use borrow.Author.Rules.{rules}
use lib.ListN.{length, take}
use Rattle.std.specs.Prelude.{Err}
use Rattle.tally.specs.Tally.{one}
use Rattle.wire.specs.Answer.{good, plain, tally_malformed}
use Rattle.tally.specs.Operations.{check_of}
use Rattle.tally.specs.declared.add.AddError.TheVariants as add_errors
use Rattle.tally.proofs.Checks.{unchecked}
use Rattle.tally.proofs.Adding.{add-long, add-beyond, add-malformed, nothing-added, may_add, row-added}
use Rattle.tally.proofs.add.add.Goals as goal

pub returns-then-name-gt-MAX_NAME_LENGTH : goal.returns-then-name-gt-MAX_NAME_LENGTH
returns-then-name-gt-MAX_NAME_LENGTH c =
    let a = c.args in
    let d = a.buffer.now in
    rw (add-long one d a.used (record { name = a.name.now; count = a.count }) c.if-name-gt-MAX_NAME_LENGTH.true) (refl, refl)

pub returns-in_err-tally : goal.returns-in_err-tally
returns-in_err-tally c =
    let a = c.args in
    let d = a.buffer.now in
    let beyond : length d < a.used = search rules in
    let is : c.from_residual.result ≡ Err add_errors.Malformed = search rules in
    rw (is, add-beyond one d a.used (record { name = a.name.now; count = a.count }) c.if-name-gt-MAX_NAME_LENGTH.false beyond) (refl, refl)

pub returns-in_err-rows : goal.returns-in_err-rows
returns-in_err-rows c =
    let a = c.args in
    let d = a.buffer.now in
    let inside : a.used ≤ length d = search rules in
    let bad : plain tally_malformed ≡ check_of one (take a.used d) = search rules in
    let is : c.from_residual-in_err-rows.result ≡ Err add_errors.Malformed = search rules in
    rw (is, add-malformed one d a.used (record { name = a.name.now; count = a.count }) c.if-name-gt-MAX_NAME_LENGTH.false inside (unchecked one (take a.used d) bad)) (refl, refl)

pub returns-then-count-eq0 : goal.returns-then-count-eq0
returns-then-count-eq0 c =
    let a = c.args in
    let d = a.buffer.now in
    let inside : a.used ≤ length d = search rules in
    let tally : good c.in_ok-rows.rows ≡ check_of one (take a.used d) = search rules in
    nothing-added d a.used _ (record { name = a.name.now; count = a.count }) c.if-name-gt-MAX_NAME_LENGTH.false inside tally c.if-count-eq0.true

pub add_row-requires : goal.add_row-requires
add_row-requires c =
    let a = c.args in
    let d = a.buffer.now in
    let inside : a.used ≤ length d = search rules in
    let tally : good c.in_ok-rows.rows ≡ check_of one (take a.used d) = search rules in
    may_add d a.used _ (record { name = a.name.now; count = a.count }) c.if-name-gt-MAX_NAME_LENGTH.false inside tally (λ i. search rules) (omega arith)

pub returns : goal.returns
returns c =
    let a = c.args in
    let d = a.buffer.now in
    let inside : a.used ≤ length d = search rules in
    let tally : good c.in_ok-rows.rows ≡ check_of one (take a.used d) = search rules in
    row-added d a.used _ (record { name = a.name.now; count = a.count }) c.if-name-gt-MAX_NAME_LENGTH.false inside tally _ c.add_row.result (omega arith) c.add_row.ensures

use Prim.Native.Nat.{ℕ, ◌+◌, ◌<◌, ◌≤◌}
use mathlib.Core.Path.{◌≡◌, subst}
use native.Mathlib.Omega.{arith}
use borrow.Author.Rules.{rules}
use lib.ListN.{length}
use Rattle.std.specs.Prelude.{Err}
use Rattle.wire.specs.Store.{stored}
use Rattle.tally.specs.Tally.{head_bytes, one, max_rows}
use Rattle.tally.specs.declared.merge.MergeError.TheVariants as merge_errors
use Rattle.tally.proofs.Merging.{merged-many, merged-rows, merged-room, merged-all}
use Rattle.tally.proofs.merge.merge_rows.Goals as goal

pub returns-in_err-rows : goal.returns-in_err-rows
returns-in_err-rows c =
    let a = c.args in
    let is : c.from_residual.result ≡ Err merge_errors.TooMany = search rules in
    rw is (merged-many _ _ _ _ c.in_err-rows.ensures.variant c.measure.ensures)

pub returns-in_err-count : goal.returns-in_err-count
returns-in_err-count c =
    let a = c.args in
    let is : c.from_residual-in_err-count.result ≡ Err merge_errors.TooMany = search rules in
    let many : max_rows < c.in_ok-rows.field-0.rows = search rules in
    rw is (merged-rows _ _ a.out.now _ _ c.in_ok-rows.ensures.cases c.measure.ensures many)

pub returns-in_err-room : goal.returns-in_err-room
returns-in_err-room c =
    let a = c.args in
    let is : c.from_residual-in_err-room.result ≡ Err merge_errors.NoRoom = search rules in
    let few : c.in_ok-rows.field-0.rows ≤ max_rows = search rules in
    let short : length a.out.now < 9 = search rules in
    rw is (merged-room _ _ a.out.now _ _ c.in_ok-rows.ensures.cases c.measure.ensures few (omega (arith, short)))

pub returns-then-room-size : goal.returns-then-room-size
returns-then-room-size c =
    let a = c.args in
    let few : c.in_ok-rows.field-0.rows ≤ max_rows = search rules in
    let room : length a.out.now ≡ c.in_ok-room.room + 9 = search rules in
    merged-room _ _ a.out.now _ _ c.in_ok-rows.ensures.cases c.measure.ensures few (omega (arith, room))

pub returns : goal.returns
returns c =
    let a = c.args in
    let room : length a.out.now ≡ c.in_ok-room.room + 9 = search rules in
    let count : c.in_ok-count.count ≡ c.in_ok-rows.field-0.rows = search rules in
    let head = subst (λ (n : ℕ). c.put_head.new.out ≡ stored 0 (head_bytes one n) a.out.now) count c.put_head.ensures in
    merged-all _ _ a.out.now _ _ c.in_ok-rows.ensures.cases c.measure.ensures (omega arith) _ _ (omega (arith, room)) head c.put_rows.ensures

use Prim.Native.Nat.{ℕ, ◌-◌, ◌≤◌}
use mathlib.Core.List.{List}
use mathlib.Core.Path.{◌≡◌}
use native.Mathlib.Omega.{arith}
use lib.ListN.{length, take, drop}
use Rattle.wire.proofs.Lists.{rest-is}
use Rattle.wire.specs.Read.{refused, map_read}
use Rattle.mapblock.proofs.Leaves.{told-behind}
use Rattle.mapblock.specs.Block.{verdict}
use Rattle.mapblock.specs.Table.{free_in}
use Rattle.block_reader.specs.Scan.{middle, MiddleIs, MiddleTold}
use Rattle.block_reader.specs.Sections.{scanned_of}
use Rattle.block_reader.proofs.Refusals.{behind_err, behind_ok}
use Rattle.block_reader.proofs.Rests.{front-inside, no_middle, sized}
use Rattle.block_reader.proofs.WithoutLateTimers.{names-room, middle-inside, upto_new}
use Rattle.std.specs.Prelude.{Ok, Result}
use Rattle.mapblock.specs.declared.fault.Refusal.{Refusal}
use Rattle.mapblock.specs.Refusals.{Behind}
use Rattle.block_reader.specs.declared.scan.MiddleFields.{MiddleFields}
use Rattle.wire.proofs.Handed.{handed_on}
use Rattle.block_reader.proofs.scan.behind_front.Goals as goal

-- What was told of the rest of the bytes, from the place on.
middle_is : {v : ℕ} (at : ℕ) (s : List ℕ) (r : Result MiddleFields Refusal) {m : MiddleFields} → Behind at r (Ok m) → MiddleTold v (take (length s - at) (drop at s)) r → MiddleIs v (drop at s) m
middle_is {v} at s r h k = behind_ok (MiddleTold v (drop at s)) at r h (rw (rest-is at s) at k)

pub overflow_sub-front : goal.overflow_sub-front
overflow_sub-front c =
    let a = c.args in
    let M = middle_is a.front.end a.s.now _ c.in_ok-lists.ensures c.middle.ensures in
    omega (arith, names-room c.requires.1 M (λ i. (c.type_inv.s i).fits) (omega arith))

pub rows_of-names-requires : goal.rows_of-names-requires
rows_of-names-requires c =
    let a = c.args in
    let M = middle_is a.front.end a.s.now _ c.in_ok-lists.ensures c.middle.ensures in
    let r = names-room c.requires.1 M (λ i. (c.type_inv.s i).fits) (omega arith) in
    let l : a.front.lists ≤ length a.s.now = omega (arith, front-inside c.requires.1, c.requires.1.ends) in
    (omega (arith, r), omega (arith, r, l))

pub without_late_timers-scanned-requires : goal.without_late_timers-scanned-requires
without_late_timers-scanned-requires c =
    let a = c.args in
    let M = middle_is a.front.end a.s.now _ c.in_ok-lists.ensures c.middle.ensures in
    sized c.requires.1 M (λ i. (c.type_inv.s i).fits) (omega arith)

pub overflow_add-end-3 : goal.overflow_add-end-3
overflow_add-end-3 c =
    let a = c.args in
    let M = middle_is a.front.end a.s.now _ c.in_ok-lists.ensures c.middle.ensures in
    omega (arith, middle-inside c.requires.1 M (λ i. (c.type_inv.s i).fits))

pub ending-requires : goal.ending-requires
ending-requires c =
    let a = c.args in
    let M = middle_is a.front.end a.s.now _ c.in_ok-lists.ensures c.middle.ensures in
    (free_in c.requires.0, rw (c.without_late_timers-scanned.ensures, c.rows_of-names.ensures) (upto_new c.requires.1 M (λ i. (c.type_inv.s i).fits) (omega arith)))

pub returns-in_err-lists-clause-told : goal.returns-in_err-lists-clause-told
returns-in_err-lists-clause-told c =
    let a = c.args in
    let end = a.front.end in
    λ t F. rw (handed_on _ c.from_residual.ensures.1) (
    behind_err (λ w. refused w.fault w.offset ≡ map_read scanned_of (verdict (free_in t) a.s.now)) (MiddleTold a.front.version (drop end a.s.now)) end _
    c.in_err-lists.ensures (rw (rest-is end a.s.now) at c.middle.ensures)
    (λ w k. omega (arith, told-behind (middle a.front.version) end a.s.now k (front-inside F)))
    (λ w k. no_middle F k)
    )

pub returns-clause-told : goal.returns-clause-told
returns-clause-told c =
    let a = c.args in
    let M = middle_is a.front.end a.s.now _ c.in_ok-lists.ensures c.middle.ensures in
    λ t F. c.ending.ensures (free_in t) (rw (c.without_late_timers-scanned.ensures, c.rows_of-names.ensures) (upto_new F M (λ i. (c.type_inv.s i).fits) (omega arith)))

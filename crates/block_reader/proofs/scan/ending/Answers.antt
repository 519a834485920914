use Prim.Native.Nat.{ℕ, ◌*◌, ◌<◌, ◌≤◌}
use mathlib.Core.Path.{◌≡◌, ◌∙◌}
use mathlib.Core.List.{List}
use mathlib.Core.Option.{some}
use native.Mathlib.Omega.{arith}
use lib.ListN.{drop}
use Rattle.wire.proofs.Lists.{rest-is}
use Rattle.wire.specs.Bytes.{Bytes, bytes_drop}
use Rattle.wire.specs.Read.{refused, map_read}
use Rattle.mapblock.proofs.Firsts.{first_below}
use Rattle.mapblock.specs.Block.{verdict}
use Rattle.mapblock.specs.Layout.{width, late_timers}
use Rattle.mapblock.specs.Params.{unmarked_in, first_unmapped_in}
use Rattle.block_reader.specs.Sections.{scanned_of}
use Rattle.block_reader.proofs.Refusals.{reach_err, reach_ok}
use Rattle.block_reader.proofs.Endings.{late-long, first_unmapped-there, width-place}
use Rattle.block_reader.proofs.Verdicts.{late-refused, late-inside, late-after, late-first_unmapped, late-done}
use Rattle.wire.proofs.Handed.{handed_on}
use Rattle.block_reader.proofs.scan.ending.Goals as goal

-- The place of the first node whose id is not mapped, among the entries.
place-of : (v : ℕ) (s t : List ℕ) {i : ℕ} → some i ≡ first_unmapped_in v s t → (width v * i < 8192) × (width v * i ≤ 4096 * width v)
place-of v s t {i} h = width-place v i (omega (arith, first_below (unmarked_in v s t) 4096 0 h))

pub returns-in_err-n : goal.returns-in_err-n
returns-in_err-n c =
    let a = c.args in
    λ free u. rw (handed_on _ c.from_residual.ensures.1)
    (reach_err (late_timers a.scanned.head.version) a.s.now a.at _ (λ w. refused w.fault w.offset ≡ map_read scanned_of (verdict free a.s.now)) c.in_err-n.ensures c.late_timers.ensures u.inside (omega arith)
    (λ e p k. late-refused u k))

pub returns-then-end-s : goal.returns-then-end-s
returns-then-end-s c =
    let a = c.args in
    let e = reach_ok (late_timers a.scanned.head.version) a.s.now a.at _ c.in_ok-n.ensures c.late_timers.ensures in
    λ free u. late-after u e c.if-end-s.true

pub overflow_mul-result : goal.overflow_mul-result
overflow_mul-result c =
    let a = c.args in
    let v = a.scanned.head.version in
    let q = c.requires.1 in
    let g : some c.in-Some.i ≡ first_unmapped_in v (drop a.scanned.lists a.s.now) a.ids.now =
    (rw (rest-is a.scanned.lists a.s.now) at c.in-Some.ensures)
    ∙ first_unmapped-there v a.s.now a.ids.now a.scanned.lists a.at q.long q.inside in
    rw c.width.ensures (omega (arith, (place-of v (drop a.scanned.lists a.s.now) a.ids.now g).0))

pub overflow_add-result : goal.overflow_add-result
overflow_add-result c =
    let a = c.args in
    let v = a.scanned.head.version in
    let q = c.requires.1 in
    let g : some c.in-Some.i ≡ first_unmapped_in v (drop a.scanned.lists a.s.now) a.ids.now =
    (rw (rest-is a.scanned.lists a.s.now) at c.in-Some.ensures)
    ∙ first_unmapped-there v a.s.now a.ids.now a.scanned.lists a.at q.long q.inside in
    rw c.width.ensures (omega (arith, (place-of v (drop a.scanned.lists a.s.now) a.ids.now g).1, q.long, q.inside))

pub returns-in-Some : goal.returns-in-Some
returns-in-Some c =
    let a = c.args in
    let v = a.scanned.head.version in
    let q = c.requires.1 in
    let b : Bytes a.s.now = λ i. (c.type_inv.s i).fits in
    let e = reach_ok (late_timers a.scanned.head.version) a.s.now a.at _ c.in_ok-n.ensures c.late_timers.ensures in
    let g : some c.in-Some.i ≡ first_unmapped_in v (drop a.scanned.lists a.s.now) a.ids.now =
    (rw (rest-is a.scanned.lists a.s.now) at c.in-Some.ensures)
    ∙ first_unmapped-there v a.s.now a.ids.now a.scanned.lists a.at q.long q.inside in
    λ free u. rw c.width.ensures (late-first_unmapped u e b c.if-end-s.false g)

pub with_late_timers-requires : goal.with_late_timers-requires
with_late_timers-requires c =
    let a = c.args in
    let s = a.s.now in
    let e = reach_ok (late_timers a.scanned.head.version) s a.at _ c.in_ok-n.ensures c.late_timers.ensures in
    (late-long a.scanned.head.version c.in_ok-n.n (drop a.at s) (bytes_drop a.at s (λ i. (c.type_inv.s i).fits)) e, omega (arith, late-inside c.requires.1 e))

pub returns : goal.returns
returns c =
    let a = c.args in
    let v = a.scanned.head.version in
    let q = c.requires.1 in
    let b : Bytes a.s.now = λ i. (c.type_inv.s i).fits in
    let e = reach_ok (late_timers a.scanned.head.version) a.s.now a.at _ c.in_ok-n.ensures c.late_timers.ensures in
    let g = (rw (rest-is a.scanned.lists a.s.now) at c.in_default.ensures)
    ∙ first_unmapped-there v a.s.now a.ids.now a.scanned.lists a.at q.long q.inside in
    λ free u. rw c.with_late_timers.ensures (late-done u e b c.if-end-s.false g)

use Prim.Native.Nat.{◌+◌}
use mathlib.Core.Path.{◌≡◌, ◌∙◌}
use native.Mathlib.Omega.{arith}
use Rattle.wire.proofs.Lists.{rest-is}
use Rattle.wire.specs.Bytes.{Bytes}
use Rattle.wire.specs.Read.{refused, map_read}
use Rattle.mapblock.specs.Block.{verdict}
use Rattle.mapblock.specs.Layout.{name_mapping}
use Rattle.mapblock.specs.Table.{free_in}
use Rattle.mapblock.specs.Told.{shown_mapping}
use Rattle.block_reader.specs.Sections.{scanned_of}
use Rattle.block_reader.proofs.Refusals.{reading_err, reading_ok}
use Rattle.block_reader.proofs.Rests.{sized, no_names, names-long, names-upto, names-restored}
use Rattle.block_reader.proofs.WithoutLateTimers.{middle-inside}
use Rattle.wire.proofs.Handed.{handed_on}
use Rattle.block_reader.proofs.scan.names_behind.Goals as goal

pub overflow_add-at : goal.overflow_add-at
overflow_add-at c =
    let p = c.requires in
    omega (arith, middle-inside p.1.1 p.2 (λ i. (c.type_inv.s i).fits))

pub overflow_add-at-2 : goal.overflow_add-at-2
overflow_add-at-2 c =
    let p = c.requires in
    omega (arith, middle-inside p.1.1 p.2 (λ i. (c.type_inv.s i).fits))

pub overflow_add-at-3 : goal.overflow_add-at-3
overflow_add-at-3 c =
    let p = c.requires in
    omega (arith, middle-inside p.1.1 p.2 (λ i. (c.type_inv.s i).fits))

pub slice_bounds-name_mapping-count : goal.slice_bounds-name_mapping-count
slice_bounds-name_mapping-count c =
    let p = c.requires in
    middle-inside p.1.1 p.2 (λ i. (c.type_inv.s i).fits)

pub slice_bounds-name_mapping-start : goal.slice_bounds-name_mapping-start
slice_bounds-name_mapping-start c =
    let p = c.requires in
    middle-inside p.1.1 p.2 (λ i. (c.type_inv.s i).fits)

pub rows_of-names-requires : goal.rows_of-names-requires
rows_of-names-requires c =
    let a = c.args in
    let p = c.requires in
    let at = a.front.end + a.middle.metadata + a.middle.early + a.middle.objects in
    let k = reading_ok (name_mapping (free_in a.ids.now)) a.s.now at shown_mapping _ c.in_ok-timestamp.ensures c.name_mapping.ensures.told in
    let l = names-long p.1.1 p.2 (λ i. (c.type_inv.s i).fits) p.0 k in
    (l.0, omega (arith, l.1))

pub without_late_timers-scanned-requires : goal.without_late_timers-scanned-requires
without_late_timers-scanned-requires c =
    let p = c.requires in
    sized p.1.1 p.2 (λ i. (c.type_inv.s i).fits) (omega arith)

pub ending-r-requires : goal.ending-r-requires
ending-r-requires c =
    let a = c.args in
    let p = c.requires in
    let at = a.front.end + a.middle.metadata + a.middle.early + a.middle.objects in
    let k = reading_ok (name_mapping (free_in a.ids.now)) a.s.now at shown_mapping _ c.in_ok-timestamp.ensures c.name_mapping.ensures.told in
    let g = rw (rest-is at a.s.now) at c.name_mapping.ensures.marked in
    (free_in p.1.0, rw (c.without_late_timers-scanned.ensures, c.rows_of-names.ensures) (names-upto p.1.1 p.2 (λ i. (c.type_inv.s i).fits) p.0 k _ g))

pub slice_bounds-unmark-count : goal.slice_bounds-unmark-count
slice_bounds-unmark-count c =
    let a = c.args in
    let p = c.requires in
    let at = a.front.end + a.middle.metadata + a.middle.early + a.middle.objects in
    let k = reading_ok (name_mapping (free_in a.ids.now)) a.s.now at shown_mapping _ c.in_ok-timestamp.ensures c.name_mapping.ensures.told in
    let l = names-long p.1.1 p.2 (λ i. (c.type_inv.s i).fits) p.0 k in
    omega (arith, l.0, l.1)

pub slice_bounds-unmark-start : goal.slice_bounds-unmark-start
slice_bounds-unmark-start c =
    let a = c.args in
    let p = c.requires in
    let at = a.front.end + a.middle.metadata + a.middle.early + a.middle.objects in
    let k = reading_ok (name_mapping (free_in a.ids.now)) a.s.now at shown_mapping _ c.in_ok-timestamp.ensures c.name_mapping.ensures.told in
    let l = names-long p.1.1 p.2 (λ i. (c.type_inv.s i).fits) p.0 k in
    omega (arith, l.0, l.1)

pub returns-in_err-timestamp-clause-told : goal.returns-in_err-timestamp-clause-told
returns-in_err-timestamp-clause-told c =
    let a = c.args in
    let p = c.requires in
    let at = a.front.end + a.middle.metadata + a.middle.early + a.middle.objects in
    let b : Bytes a.s.now = λ i. (c.type_inv.s i).fits in
    λ t F. rw (handed_on _ c.from_residual.ensures.1)
    (reading_err (name_mapping (free_in a.ids.now)) a.s.now at shown_mapping _ (λ w. refused w.fault w.offset ≡ map_read scanned_of (verdict (free_in t) a.s.now)) c.in_err-timestamp.ensures
    c.name_mapping.ensures.told (middle-inside p.1.1 p.2 b) (omega arith) (λ e q k. no_names F p.2 b p.0 k))

pub returns-clause-told : goal.returns-clause-told
returns-clause-told c =
    let a = c.args in
    let p = c.requires in
    let at = a.front.end + a.middle.metadata + a.middle.early + a.middle.objects in
    let k = reading_ok (name_mapping (free_in a.ids.now)) a.s.now at shown_mapping _ c.in_ok-timestamp.ensures c.name_mapping.ensures.told in
    let g = rw (rest-is at a.s.now) at c.name_mapping.ensures.marked in
    λ t F. c.ending-r.ensures (free_in t) (rw (c.without_late_timers-scanned.ensures, c.rows_of-names.ensures) (names-upto F p.2 (λ i. (c.type_inv.s i).fits) p.0 k _ g))

pub returns-clause-ids : goal.returns-clause-ids
returns-clause-ids c =
    let a = c.args in
    let p = c.requires in
    let at = a.front.end + a.middle.metadata + a.middle.early + a.middle.objects in
    let k = reading_ok (name_mapping (free_in a.ids.now)) a.s.now at shown_mapping _ c.in_ok-timestamp.ensures c.name_mapping.ensures.told in
    let g = rw (rest-is at a.s.now) at c.name_mapping.ensures.marked in
    (rw (rest-is (at + 7) a.s.now) at c.unmark.ensures) ∙ names-restored p.1.1 p.2 (λ i. (c.type_inv.s i).fits) p.0 k _ g

use Prim.Native.Nat.{ℕ, ◌+◌, ◌-◌, ◌≤◌}
use mathlib.Core.Path.{◌≡◌}
use mathlib.Core.List.{List}
use native.Mathlib.Omega.{arith}
use lib.ListN.{length, take, drop}
use Rattle.std.specs.Prelude.{Ok, Err, Result}
use Rattle.wire.proofs.Lists.{rest-is}
use Rattle.wire.specs.Read.{done, map_read}
use Rattle.wire.specs.Format.{ends-in}
use Rattle.mapblock.specs.Layout.{opening, name_mapping}
use Rattle.mapblock.specs.Table.{free_in, NameMappingMarked}
use Rattle.mapblock.specs.Told.{shown_mapping, told_reading}
use Rattle.mapblock.specs.declared.fault.Refusal.{Refusal}
use Rattle.mapblock.specs.declared.names.NamesHead.{NamesHead}
use Rattle.mapblock.specs.Refusals.{Behind}
use Rattle.block_reader.specs.Scan.{opening_is, FrontTold}
use Rattle.block_reader.specs.declared.scan.OpeningFields.{OpeningFields}
use Rattle.block_reader.proofs.Refusals.{reading_err, reading_ok}
use Rattle.block_reader.proofs.Fronts.{NamesRead, nodes-two, names-stop, names-read, names_in, rows_in_lem, nodes-in, named-stops, named-told}
use Rattle.wire.proofs.Handed.{handed_on}
use Rattle.block_reader.proofs.scan.named_front.Goals as goal

-- What was told and marked of the rest of the bytes, from the place on.
names_of : {t u s : List ℕ} {o : OpeningFields} {at : ℕ} → (29 ≤ o.version) × (opening.read s ≡ done (opening_is o) at)
    → NameMappingMarked t u ((name_mapping (free_in t)).read (take (length s - at) (drop at s)))
    → (r : Result (NamesHead × ℕ) Refusal) → told_reading r ≡ map_read shown_mapping ((name_mapping (free_in t)).read (take (length s - at) (drop at s)))
    → {x : NamesHead} {n : ℕ} → Behind at r (Ok (x, n)) → NamesRead t u s o at x.timestamp x.count n
names_of {t} {u} {s} {at = at} (l, h) m r k e = names-read t u s h l (rw rest-is at m) (reading_ok (name_mapping (free_in t)) s at shown_mapping r e k)

pub slice_bounds-name_mapping-count : goal.slice_bounds-name_mapping-count
slice_bounds-name_mapping-count c = ends-in opening c.requires.1

pub slice_bounds-name_mapping-start : goal.slice_bounds-name_mapping-start
slice_bounds-name_mapping-start c = ends-in opening c.requires.1

pub slice_bounds-node_data-count : goal.slice_bounds-node_data-count
slice_bounds-node_data-count c = names_in (names_of c.requires c.name_mapping.ensures.marked _ c.name_mapping.ensures.told c.in_ok-timestamp.ensures)

pub slice_bounds-node_data-start : goal.slice_bounds-node_data-start
slice_bounds-node_data-start c = names_in (names_of c.requires c.name_mapping.ensures.marked _ c.name_mapping.ensures.told c.in_ok-timestamp.ensures)

pub overflow_add-at : goal.overflow_add-at
overflow_add-at c = omega (arith, rows_in_lem (names_of c.requires c.name_mapping.ensures.marked _ c.name_mapping.ensures.told c.in_ok-timestamp.ensures))

pub slice_bounds-unmark-count : goal.slice_bounds-unmark-count
slice_bounds-unmark-count c = rows_in_lem (names_of c.requires c.name_mapping.ensures.marked _ c.name_mapping.ensures.told c.in_ok-timestamp.ensures)

pub slice_bounds-unmark-start : goal.slice_bounds-unmark-start
slice_bounds-unmark-start c = rows_in_lem (names_of c.requires c.name_mapping.ensures.marked _ c.name_mapping.ensures.told c.in_ok-timestamp.ensures)

pub overflow_add-result : goal.overflow_add-result
overflow_add-result c =
    let e = rw rest-is at c.in-Ok.ensures in
    omega (arith, nodes-in (names_of c.requires c.name_mapping.ensures.marked _ c.name_mapping.ensures.told c.in_ok-timestamp.ensures) e, nodes-two c.args.fields.version (drop (c.args.at + c.in_ok-timestamp.n) c.args.s.now) e)

pub returns-in_err-timestamp : goal.returns-in_err-timestamp
returns-in_err-timestamp c =
    let t = c.args.ids.now in
    let u = c.name_mapping.new.ids in
    let s = c.args.s.now in
    rw (handed_on _ c.from_residual.ensures.1)
    (reading_err (name_mapping (free_in t)) s c.args.at shown_mapping _ (λ w. FrontTold t u s (Err w)) c.in_err-timestamp.ensures c.name_mapping.ensures.told (ends-in opening c.requires.1) (omega arith)
    (λ e p k. names-stop t u s c.requires.1 c.requires.0 (rw rest-is at c.name_mapping.ensures.marked) k))

pub returns-in-Err : goal.returns-in-Err
returns-in-Err c =
    let w = names_of c.requires c.name_mapping.ensures.marked _ c.name_mapping.ensures.told c.in_ok-timestamp.ensures in
    let k = rw rest-is at c.in-Err.ensures in
    rw (c.behind-in-Err.ensures (omega (arith, nodes-in w k))) (named-stops w k (rw rest-is at c.unmark.ensures))

pub returns-in-Ok : goal.returns-in-Ok
returns-in-Ok c =
    let w = names_of c.requires c.name_mapping.ensures.marked _ c.name_mapping.ensures.told c.in_ok-timestamp.ensures in
    named-told w (λ i. (c.type_inv.s i).fits) (rw rest-is at c.in-Ok.ensures)

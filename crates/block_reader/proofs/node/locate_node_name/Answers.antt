use Prim.Native.Nat.{◌+◌, ◌-◌, ◌*◌, ◌≤◌}
use mathlib.Core.Path.{ap, sym, ◌∙◌}
use native.Mathlib.Omega.{arith}
use lib.ListN.{length, take, drop, length-drop}
use Rattle.wire.proofs.Lists.{rest-is}
use Rattle.wire.specs.Bytes.{Bytes}
use Rattle.mapblock.specs.Layout.{width}
use Rattle.mapblock.proofs.Entries.{id-there}
use Rattle.block_reader.specs.Questions.{node_name_in}
use Rattle.block_reader.proofs.BlockAnswers.{taken_as_lem, block_refused}
use Rattle.block_reader.proofs.NodeNames.{names_inside, spot_in, node-none, node-told}
use Rattle.wire.proofs.Handed.{handed_on}
use Rattle.block_reader.proofs.node.locate_node_name.Goals as goal

pub returns-in_err-scanned : goal.returns-in_err-scanned
returns-in_err-scanned c = rw (handed_on _ c.from_residual.ensures.1) (sym (ap (node_name_in c.args.index) (block_refused c.args.block.now c.in_err-scanned.ensures)))

pub returns-then-index-ge-NODES : goal.returns-then-index-ge-NODES
returns-then-index-ge-NODES c =
    let b : Bytes c.args.block.now = λ i. (c.type_inv.block i).fits in
    let k = taken_as_lem c.args.block.now b c.in_ok-scanned.ensures in
    node-none k b c.args.index (omega arith)

pub slice_bounds-id_of-count : goal.slice_bounds-id_of-count
slice_bounds-id_of-count c =
    let k = taken_as_lem _ (λ i. (c.type_inv.block i).fits) c.in_ok-scanned.ensures in
    omega (arith, k.inside)

pub slice_bounds-id_of-start : goal.slice_bounds-id_of-start
slice_bounds-id_of-start c =
    let k = taken_as_lem _ (λ i. (c.type_inv.block i).fits) c.in_ok-scanned.ensures in
    omega (arith, k.inside)

pub find-requires : goal.find-requires
find-requires c = omega (arith, names_inside (taken_as_lem _ (λ i. (c.type_inv.block i).fits) c.in_ok-scanned.ensures) (λ i. (c.type_inv.block i).fits))

pub returns : goal.returns
returns c =
    let s = c.args.block.now in
    let w = c.in_ok-scanned.scanned in
    let b : Bytes s = λ i. (c.type_inv.block i).fits in
    let k = taken_as_lem s b c.in_ok-scanned.ensures in
    let rest = take (length s - w.lists) (drop w.lists s) in
    let long : 4096 * width w.head.version + 8192 ≤ length rest = rw (rest-is w.lists s, length-drop) (omega (arith, k.inside)) in
    node-told k b c.args.index (omega arith)
    (c.id_of-id.ensures ∙ id-there w.head.version rest c.args.index (omega arith) long)
    (spot_in k b c.id_of-id.result c.find.ensures)

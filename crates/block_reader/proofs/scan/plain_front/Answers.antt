use native.Mathlib.Omega.{arith}
use lib.ListN.{drop}
use Rattle.std.specs.Prelude.{Err}
use Rattle.wire.specs.Format.{ends-in}
use Rattle.mapblock.specs.Layout.{opening, nodes}
use Rattle.block_reader.specs.Scan.{FrontTold}
use Rattle.block_reader.proofs.Refusals.{reach_err, reach_ok}
use Rattle.block_reader.proofs.Fronts.{opened_in, nodes-two, plain-stops, plain-told}
use Rattle.wire.proofs.Handed.{handed_on}
use Rattle.block_reader.proofs.scan.plain_front.Goals as goal

pub slice_bounds-node_data-count : goal.slice_bounds-node_data-count
slice_bounds-node_data-count c = ends-in opening c.requires.1

pub slice_bounds-node_data-start : goal.slice_bounds-node_data-start
slice_bounds-node_data-start c = ends-in opening c.requires.1

pub returns-in_err-n : goal.returns-in_err-n
returns-in_err-n c =
    let s = c.args.s.now in
    λ t z. rw (handed_on _ c.from_residual.ensures.1)
    (reach_err (nodes c.args.fields.version) s c.args.at _ (λ w. FrontTold t t s (Err w)) c.in_err-n.ensures c.node_data.ensures (ends-in opening c.requires.1) (omega arith) (λ e p k. plain-stops t s c.requires.1 c.requires.0 k))

pub overflow_add-result : goal.overflow_add-result
overflow_add-result c =
    let a = c.args in
    let k = reach_ok (nodes a.fields.version) a.s.now a.at _ c.in_ok-n.ensures c.node_data.ensures in
    omega (arith, opened_in (λ _. tt) (nodes a.fields.version) a.s.now c.requires.1 k, nodes-two a.fields.version (drop a.at a.s.now) k)

pub returns : goal.returns
returns c =
    let s = c.args.s.now in
    λ t z. plain-told t s c.requires.1 c.requires.0 z (λ i. (c.type_inv.s i).fits) (reach_ok (nodes c.args.fields.version) s c.args.at _ c.in_ok-n.ensures c.node_data.ensures)

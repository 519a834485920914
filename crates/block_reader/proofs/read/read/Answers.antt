use mathlib.Core.Path.{sym, ◌∙◌}
use native.Mathlib.Omega.{arith}
use lib.ListN.{length, length-drop}
use Rattle.wire.proofs.Lists.{rest-is}
use Rattle.mapblock.specs.Data.{Nodes}
use Rattle.block_reader.proofs.BlockAnswers.{taken_as_lem, block_refused, lists-kept, read-block, read_told, list-filled}
use Rattle.wire.proofs.Handed.{handed_on}
use Rattle.block_reader.proofs.read.read.Goals as goal

pub returns-in_err-scanned : goal.returns-in_err-scanned
returns-in_err-scanned c =
    let a = c.args in
    let k = block_refused a.block.now c.in_err-scanned.ensures in
    rw (handed_on _ c.from_residual.ensures.1) (
    lists-kept a.param0.now a.param1.now a.param2.now
    (read-block a.block.now (length a.param0.now) (length a.param1.now) (length a.param2.now) (sym c.are_whole.ensures ∙ c.if-not-are_whole.false) k)
    )

pub slice_bounds-fill-count : goal.slice_bounds-fill-count
slice_bounds-fill-count c =
    let k = taken_as_lem _ (λ i. (c.type_inv.block i).fits) c.in_ok-scanned.ensures in
    omega (arith, k.inside)

pub slice_bounds-fill-start : goal.slice_bounds-fill-start
slice_bounds-fill-start c =
    let k = taken_as_lem _ (λ i. (c.type_inv.block i).fits) c.in_ok-scanned.ensures in
    omega (arith, k.inside)

pub fill-requires-clause-version_in_bounds : goal.fill-requires-clause-version_in_bounds
fill-requires-clause-version_in_bounds c =
    let s = c.args.block.now in
    let k = taken_as_lem s (λ i. (c.type_inv.block i).fits) c.in_ok-scanned.ensures in
    rw (rest-is c.in_ok-scanned.scanned.lists s, length-drop) (omega (arith, k.inside))

pub returns : goal.returns
returns c =
    let a = c.args in
    let k = taken_as_lem a.block.now (λ i. (c.type_inv.block i).fits) c.in_ok-scanned.ensures in
    let h = read-block a.block.now (length a.param0.now) (length a.param1.now) (length a.param2.now) (sym c.are_whole.ensures ∙ c.if-not-are_whole.false) k.answer in
    let f = c.fill.ensures in (
      read_told k h,
      (
        list-filled k h (λ (n : Nodes). n.param0) a.param0.now c.fill.new.param0 f.param0 c.fill.auto.param0,
        list-filled k h (λ (n : Nodes). n.param1) a.param1.now c.fill.new.param1 f.param1 c.fill.auto.param1,
        list-filled k h (λ (n : Nodes). n.param2) a.param2.now c.fill.new.param2 f.param2 c.fill.auto.param2,
      ),
    )

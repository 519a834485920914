use Rattle.std.proofs.Common.{◌≡◌, false, sym, ◌∙◌, arith, length, length-take-le, take_at}
use Rattle.wire.specs.Bytes.{Bytes}
use Rattle.position.specs.Spans.{in_span}
use Rattle.census.proofs.UsedWalk.{used-places}
use Rattle.census.proofs.CensusTaken.{census-none, census-some}
use Rattle.census.proofs.census.take_census.Goals as goal

pub returns-then-not-count_nodes-clause-told : goal.returns-then-not-count_nodes-clause-told
returns-then-not-count_nodes-clause-told c =
    let a = c.args in
    let bytes : Bytes a.block.now = λ i. (c.type_inv.block i).fits in
    let out : in_span a.part.span a.scanned.head.timestamp ≡ false = sym c.count_nodes.ensures.within ∙ c.if-not-count_nodes.true in
    λ b n reads shows clear. census-none a.block.now a.part a.at bytes reads shows (c.count_nodes.ensures.outside out ∙ clear) out

pub returns-clause-told : goal.returns-clause-told
returns-clause-told c =
    let a = c.args in
    let u = c.used-n.ensures in
    let bytes : Bytes a.block.now = λ i. (c.type_inv.block i).fits in
    let n = c.used-n.result in
    let ys = c.sort.new.places in
    let long : length ys ≡ n = c.sort.ensures.kept ∙ length-take-le n c.used-n.new.places (omega (arith, u.bounded, c.used-n.array_long)) in
    λ b m reads shows clear. census-some a.block.now a.part a.at bytes reads shows c.slice_of-names.ensures.bytes (c.count_nodes.ensures.told b m reads shows clear) record {
      uses = λ l r f. used-places _ _ r f (u.told, u.places);
      sorts = rw (take_at ys _ n long) (c.sort.ensures.sorted (omega (arith, u.bounded, length-take-le n c.used-n.new.places (omega (arith, u.bounded, c.used-n.array_long)), c.told-scratch)));
    }

use Rattle.std.proofs.Common.{rules, sym, ◌∙◌}
use Rattle.wire.specs.Bytes.{Bytes}
use Rattle.census.proofs.CensusTaken.{counted_none, counted-some}
use Rattle.census.proofs.ScannedBlock.{lists-inside, lists-cut}
use Rattle.census.proofs.census.count_nodes.Goals as goal

pub returns-then-not-has-clause-told : goal.returns-then-not-has-clause-told
returns-then-not-has-clause-told c =
    let a = c.args in
    let bytes : Bytes a.block.now = λ i. (c.type_inv.block i).fits in
    λ b n reads shows clear. counted_none a.block.now a.part a.at bytes reads shows clear (sym c.has.ensures ∙ c.if-not-has.true)

pub returns-clause-told : goal.returns-clause-told
returns-clause-told c =
    let a = c.args in
    let bytes : Bytes a.block.now = λ i. (c.type_inv.block i).fits in
    λ b n reads shows clear. counted-some a.block.now a.part a.at bytes reads shows clear (sym c.has.ensures ∙ c.if-not-has.false) (search (rules, lists-inside a.block.now bytes reads shows, lists-cut a.block.now bytes reads shows)) c.count_in.ensures.counts

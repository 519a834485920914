use mathlib.Core.Path.{sym, ◌∙◌}
use native.Mathlib.Omega.{arith}
use Rattle.mapblock.specs.Params.{unmarked_in}
use Rattle.mapblock.proofs.Firsts.{first-here, first_on, first-end, mark-bare, mark-there}
use Rattle.mapblock.proofs.nodes.first_unmapped_in.Goals as goal

pub returns : goal.returns
returns c =
    let a = c.args in
    let l = c.loop-i in
    sym (first-end (unmarked_in a.version a.s.now a.ids.now) 4096 l.i (omega arith)) ∙ l.invariant

pub returns-then-ids-id_in-eq0 : goal.returns-then-ids-id_in-eq0
returns-then-ids-id_in-eq0 c =
    let a = c.args in
    let l = c.loop-i in
    sym (first-here (unmarked_in a.version a.s.now a.ids.now) 4096 l.i (omega arith) (mark-bare a.ids.now c.id_in.ensures.told c.if-ids-id_in-eq0.true)) ∙ l.invariant

pub loop-i-preserved : goal.loop-i-preserved
loop-i-preserved c =
    let a = c.args in
    let l = c.loop-i in
    sym (first_on (unmarked_in a.version a.s.now a.ids.now) 4096 l.i (omega arith) (mark-there a.ids.now c.id_in.ensures.told c.if-ids-id_in-eq0.false)) ∙ l.invariant

use native.Mathlib.Omega.{arith}
use lib.ListN.{get_or}
use Rattle.mapblock.proofs.Entries.{content-below}
use Rattle.mapblock.proofs.Firsts.{first-here, first_on, first-end, mark-bare, mark-there}
use mathlib.Core.Path.{sym, ◌∙◌}
use Rattle.block_writer.specs.Judging.{unmarked_among}
use Rattle.block_writer.proofs.FirstUnmapped.{narrow_at}
use Rattle.block_writer.proofs.measure.first_unmapped.Goals as goal

pub bounds-ids-content_id : goal.bounds-ids-content_id
bounds-ids-content_id c =
    let a = c.args in
    let pre = c.requires in
    let i = c.loop-i.i in
    let k = c.loop-i-test.true in
    rw c.content_id.ensures
    (content-below a.version (get_or a.param0.now i 0) (get_or a.param2.now i 0) (c.type_inv.param0 i).fits (c.type_inv.param2 i).fits
    (narrow_at a.version a.param0.now i pre.2 (omega (arith, pre.0))))

pub returns-then-ids-content_id-eq0 : goal.returns-then-ids-content_id-eq0
returns-then-ids-content_id-eq0 c =
    let a = c.args in
    let l = c.loop-i in
    let test = c.loop-i-test in
    sym (first-here (unmarked_among a.version a.param0.now a.param2.now a.ids.now) 4096 l.i test.true (mark-bare a.ids.now c.content_id.ensures c.if-ids-content_id-eq0.true)) ∙ l.invariant

pub loop-i-preserved : goal.loop-i-preserved
loop-i-preserved c =
    let a = c.args in
    let l = c.loop-i in
    let test = c.loop-i-test in
    sym (first_on (unmarked_among a.version a.param0.now a.param2.now a.ids.now) 4096 l.i test.true (mark-there a.ids.now c.content_id.ensures c.if-ids-content_id-eq0.false)) ∙ l.invariant

pub returns : goal.returns
returns c =
    let a = c.args in
    let l = c.loop-i in
    sym (first-end (unmarked_among a.version a.param0.now a.param2.now a.ids.now) 4096 l.i c.loop-i-test.false) ∙ l.invariant

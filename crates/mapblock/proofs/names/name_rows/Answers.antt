use native.Mathlib.Omega.{arith}
use borrow.Author.Rules.{rules}
use mathlib.Core.Path.{◌∙◌}
use Rattle.wire.proofs.Lists.{rest-is}
use Rattle.wire.specs.Ranges.{InReach}
use Prim.Native.Nat.{◌+◌, ◌<◌}
use Rattle.mapblock.specs.Table.{free_in}
use Rattle.mapblock.proofs.NameLoop.{named_start, named-place, named-front, named_end, named-refused, named-on}
use Rattle.mapblock.proofs.NamesMarked.{told-marked}
use Rattle.mapblock.proofs.names.name_rows.Goals as goal

pub loop-read-init : goal.loop-read-init
loop-read-init c = named_start _ _ _ c.told-ids

pub returns-in-Err : goal.returns-in-Err
returns-in-Err c =
    let l = c.loop-read in
    let w = l.invariant in
    let there = rw (rest-is l.at c.args.s.now) at (c.in-Err.ensures (free_in c.args.ids.now) w.seen w.tabled) in
    let reach : InReach (l.at + c.in-Err.refusal.offset) = omega (arith, named-place w there) in
    let p = told-marked c.args.ids.now c.args.s.now c.args.count c.told-ids (named-refused w c.loop-read-test.true there (c.unmark.ensures ∙ named-front w)) in
    rw (c.behind.ensures reach) record { told = p.0; ids = p.1.0; sized = p.1.1 }

pub overflow_add-at : goal.overflow_add-at
overflow_add-at c =
    let l = c.loop-read in
    let w = l.invariant in
    let there = rw (rest-is l.at c.args.s.now) at (c.in-Ok.ensures (free_in c.args.ids.now) w.seen w.tabled) in
    omega (arith, named-place w there)

pub loop-read-preserved : goal.loop-read-preserved
loop-read-preserved c =
    let l = c.loop-read in
    let w = l.invariant in
    let there = rw (rest-is l.at c.args.s.now) at (c.in-Ok.ensures (free_in c.args.ids.now) w.seen w.tabled) in
    let fits : c.in-Ok.row.id < 65536 = search rules in
    rw c.from.ensures (named-on w c.loop-read-test.true there fits)

pub returns : goal.returns
returns c =
    let p = told-marked c.args.ids.now c.args.s.now c.args.count c.told-ids (named_end c.loop-read.invariant (omega arith)) in
    record { told = p.0; ids = p.1.0; sized = p.1.1 }

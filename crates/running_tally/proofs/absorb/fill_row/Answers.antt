use Rattle.std.proofs.Common.{◌∙◌, ◌-◌, take, drop, arith, rules}
use Rattle.wire.specs.Bytes.{Bytes}
use Rattle.tally.specs.LookedUp.{LookedUp}
use Rattle.tally.specs.declared.lookup.Lookup.TheVariants as lookups
use Rattle.tally.proofs.LookingUp.{looked-up-told}
use Rattle.running_tally.proofs.FilledRow.{row_in, row-passed, place_in, place-full, place-filled}
use Rattle.running_tally.proofs.absorb.fill_row.Goals as goal
use Rattle.running_tally.proofs.absorb.fill_row.Goals.{In-Present, In-Absent}

-- what the search among the rows behind the hole told
row_found : (c : In-Present) → LookedUp (take (c.args.end - c.args.hole.read) (drop c.args.hole.read c.args.buffer.now)) c.args.name.now (lookups.Present c.in-Present.at c.in-Present.count)
row_found c =
    let a = c.args in
    let bytes : Bytes a.buffer.now = search rules in
    looked-up-told a.buffer.now a.hole.read (a.end - a.hole.read) a.name.now bytes c.look_up.ensures c.in-Present.is

place_found : (c : In-Absent) → LookedUp (take (c.args.end - c.args.hole.read) (drop c.args.hole.read c.args.buffer.now)) c.args.name.now (lookups.Absent c.in-Absent.at)
place_found c =
    let a = c.args in
    let bytes : Bytes a.buffer.now = search rules in
    looked-up-told a.buffer.now a.hole.read (a.end - a.hole.read) a.name.now bytes c.look_up.ensures c.in-Absent.is

pub pass-requires : goal.pass-requires
pass-requires c =
    let a = c.args in
    let found = row_found (goal.at.pass-requires c).In-Present in
    (c.requires.ahead, omega (arith, row_in a.buffer.now a.hole a.end c.requires (record { name = a.name.now; count = a.count }) _ _ found, c.requires.inside))

pub pass-passed-requires : goal.pass-passed-requires
pass-passed-requires c =
    let a = c.args in
    let found = place_found (goal.at.pass-passed-requires c).In-Absent in
    (c.requires.ahead, omega (arith, place_in a.buffer.now a.hole a.end c.requires (record { name = a.name.now; count = a.count }) _ found, c.requires.inside))

pub returns-in-Present : goal.returns-in-Present
returns-in-Present c =
    let a = c.args in
    let found = row_found (goal.at.returns-in-Present c).In-Present in
    rw c.pass.ensures.hole (row-passed a.buffer.now a.hole a.end c.requires (record { name = a.name.now; count = a.count }) _ _ found _ c.pass.ensures.bytes)

pub returns-then-passed-more : goal.returns-then-passed-more
returns-then-passed-more c =
    let a = c.args in
    let found = place_found (goal.at.returns-then-passed-more c).In-Absent in
    let passed = c.pass-passed.ensures in
    let short = rw passed.hole at c.if-passed-more.true in
    rw passed.hole (place-full a.buffer.now a.hole a.end c.requires (record { name = a.name.now; count = a.count }) _ found _ passed.bytes (omega (arith, short)))

pub returns-else-passed-more : goal.returns-else-passed-more
returns-else-passed-more c =
    let a = c.args in
    let found = place_found (goal.at.returns-else-passed-more c).In-Absent in
    let passed = c.pass-passed.ensures in
    let long = rw passed.hole at c.if-passed-more.false in
    let row = rw passed.hole at c.put_row.ensures in
    rw passed.hole
    (place-filled a.buffer.now a.hole a.end c.requires (record { name = a.name.now; count = a.count }) _ found _ passed.bytes (omega (arith, long)) _ (c.put_row.auto.out ∙ c.pass-passed.auto.buffer) row)

use Rattle.std.proofs.Common.{◌+◌, ◌-◌, ◌≤◌, length, take, drop, refl, arith, rules}
use Rattle.wire.specs.Bytes.{Bytes}
use Rattle.tally.specs.LookedUp.{LookedUp}
use Rattle.tally.specs.declared.lookup.Lookup.TheVariants as lookups
use Rattle.tally.proofs.LookingUp.{looked-up-told}
use Rattle.running_tally.proofs.RaisedRow.{raised-place, missing-place, row-raised, row-missing}
use Rattle.running_tally.proofs.absorb.raise_row.Goals as goal
use Rattle.running_tally.proofs.absorb.raise_row.Goals.{In-Present, In-Absent}

-- what the search among the rows from the cursor on told
row_found : (c : In-Present) → LookedUp (take (c.args.size - c.args.at) (drop c.args.at c.args.buffer.now)) c.args.name.now (lookups.Present c.in-Present.p c.in-Present.before)
row_found c =
    let a = c.args in
    let bytes : Bytes a.buffer.now = search rules in
    looked-up-told a.buffer.now a.at (a.size - a.at) a.name.now bytes c.look_up.ensures c.in-Present.is

row-within : (c : In-Present) → c.args.at + c.in-Present.p + (length c.args.name.now + 10) ≤ c.args.size
row-within c = let a = c.args in raised-place a.buffer.now a.at a.size (record { name = a.name.now; count = a.count }) c.requires.0 c.requires.1 _ _ (row_found c)

place_found : (c : In-Absent) → LookedUp (take (c.args.size - c.args.at) (drop c.args.at c.args.buffer.now)) c.args.name.now (lookups.Absent c.in-Absent.p)
place_found c =
    let a = c.args in
    let bytes : Bytes a.buffer.now = search rules in
    looked-up-told a.buffer.now a.at (a.size - a.at) a.name.now bytes c.look_up.ensures c.in-Absent.is

pub overflow_add-place : goal.overflow_add-place
overflow_add-place c = omega (arith, row-within (goal.at.overflow_add-place c).In-Present)

pub overflow_add-place-in-Present : goal.overflow_add-place-in-Present
overflow_add-place-in-Present c = omega (arith, row-within (goal.at.overflow_add-place-in-Present c).In-Present)

pub overflow_add-place-in-Present-2 : goal.overflow_add-place-in-Present-2
overflow_add-place-in-Present-2 c = omega (arith, row-within (goal.at.overflow_add-place-in-Present-2 c).In-Present)

pub overflow_add-result : goal.overflow_add-result
overflow_add-result c = let a = c.args in omega (arith, missing-place a.buffer.now a.at a.size (record { name = a.name.now; count = a.count }) c.requires.0 c.requires.1 _ (place_found c))

pub returns-in-Present : goal.returns-in-Present
returns-in-Present c =
    let a = c.args in
    let found = row_found (goal.at.returns-in-Present c).In-Present in
    row-raised a.buffer.now a.at a.size (record { name = a.name.now; count = a.count }) c.requires.0 c.requires.1 _ _ _ _ found c.put_number.auto.out refl c.put_number.ensures

pub returns-in-Absent : goal.returns-in-Absent
returns-in-Absent c = let a = c.args in row-missing a.buffer.now a.at a.size (record { name = a.name.now; count = a.count }) c.requires.0 c.requires.1 _ (place_found c)

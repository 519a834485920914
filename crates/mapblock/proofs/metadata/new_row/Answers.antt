use native.Mathlib.Omega.{arith}
use Prim.Native.Nat.{◌+◌, ◌≤◌}
use lib.ListN.{length, drop, length-drop}
use Rattle.wire.specs.Formats.{times}
use Rattle.mapblock.specs.Inventory.{inventory}
use Rattle.mapblock.specs.MetadataChecks.{variable_for}
use Rattle.mapblock.proofs.Leaves.{by_number, read_behind}
use Rattle.wire.specs.Told.{told_number}
use Rattle.mapblock.proofs.Readings.{num, within-ended}
use Rattle.mapblock.proofs.MetadataRows.{count-ends, variables-refused, inventory-refused, new-done}
use Rattle.mapblock.proofs.Refusals.{none_becomes, part_refused, part_done}
use Rattle.wire.proofs.Handed.{handed_on}
use Rattle.mapblock.proofs.metadata.new_row.Goals as goal

pub returns-in_err-count : goal.returns-in_err-count
returns-in_err-count c =
    let p = c.requires in
    let none = c.in_err-count.ensures in
    rw (none_becomes _ c.from_residual.ensures.1 none.value none.ok_part c.ends.ensures) (count-ends _ _ _ p.1 p.0 (by_number 4 _ (told_number 4) c.number_at.ensures none.ok_part))

pub returns-in_err-n : goal.returns-in_err-n
returns-in_err-n c =
    let p = c.requires in
    let count = by_number 4 _ (told_number 4) c.number_at.ensures c.in_ok-count.ensures.ok_part in
    rw (handed_on _ c.from_residual-in_err-n.ensures.1)
    (part_refused (times c.in_ok-count.count (variable_for c.args.values c.args.version)) 6 c.args.s.now c.variables.result c.in_err-n.ensures c.variables.ensures (omega arith) (omega arith) (λ e q k. variables-refused _ _ _ p.1 p.0 count k))

pub returns-in_err-m : goal.returns-in_err-m
returns-in_err-m c =
    let p = c.requires in
    let count = by_number 4 _ (told_number 4) c.number_at.ensures c.in_ok-count.ensures.ok_part in
    let vars = part_done (times c.in_ok-count.count (variable_for c.args.values c.args.version)) 6 c.args.s.now c.variables.result c.in_ok-n.ensures c.variables.ensures in
    let six : 6 ≤ length c.args.s.now = read_behind (num 4) 2 c.args.s.now count (omega arith) in
    let n_in : c.in_ok-n.n ≤ length (drop 6 c.args.s.now) = within-ended (times c.in_ok-count.count (variable_for c.args.values c.args.version)) _ vars in
    rw (handed_on _ c.from_residual-in_err-m.ensures.1)
    (part_refused inventory (6 + c.in_ok-n.n) c.args.s.now c.inventory.result c.in_err-m.ensures c.inventory.ensures (omega (arith, six, n_in, length-drop 6 c.args.s.now)) (omega arith) (λ e q k. inventory-refused _ _ _ p.1 p.0 count vars k))

pub returns : goal.returns
returns c =
    let p = c.requires in
    let count = by_number 4 _ (told_number 4) c.number_at.ensures c.in_ok-count.ensures.ok_part in
    let vars = part_done (times c.in_ok-count.count (variable_for c.args.values c.args.version)) 6 c.args.s.now c.variables.result c.in_ok-n.ensures c.variables.ensures in
    let found = part_done inventory (6 + c.in_ok-n.n) c.args.s.now c.inventory.result c.in_ok-m.ensures c.inventory.ensures in
    new-done _ _ _ p.1 p.0 count vars (λ i. (c.type_inv.s i).fits) found

pub overflow_add-result : goal.overflow_add-result
overflow_add-result c =
    let count = by_number 4 _ (told_number 4) c.number_at.ensures c.in_ok-count.ensures.ok_part in
    let vars = part_done (times c.in_ok-count.count (variable_for c.args.values c.args.version)) 6 c.args.s.now c.variables.result c.in_ok-n.ensures c.variables.ensures in
    let six : 6 ≤ length c.args.s.now = read_behind (num 4) 2 c.args.s.now count (omega arith) in
    let n_in : c.in_ok-n.n ≤ length (drop 6 c.args.s.now) = within-ended (times c.in_ok-count.count (variable_for c.args.values c.args.version)) _ vars in
    let m_in : c.in_ok-m.m ≤ length (drop (6 + c.in_ok-n.n) c.args.s.now) = within-ended inventory _ (part_done inventory (6 + c.in_ok-n.n) c.args.s.now c.inventory.result c.in_ok-m.ensures c.inventory.ensures) in
    omega (arith, six, n_in, length-drop 6 c.args.s.now, m_in, length-drop (6 + c.in_ok-n.n) c.args.s.now)

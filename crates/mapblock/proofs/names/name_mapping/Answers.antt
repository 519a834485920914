use native.Mathlib.Omega.{arith}
use Prim.Native.Nat.{ℕ}
use mathlib.Core.Path.{ap, ◌∙◌}
use lib.ListN.{drop}
use Rattle.wire.proofs.Lists.{rest-is}
use Rattle.wire.specs.Bytes.{bytes_drop}
use Rattle.wire.specs.Format.{items}
use Rattle.wire.specs.Read.{done}
use Rattle.wire.specs.Told.{told_number}
use Rattle.mapblock.specs.Layout.{name_row}
use Rattle.mapblock.specs.Table.{free_in}
use Rattle.mapblock.proofs.Leaves.{by_number}
use Rattle.mapblock.proofs.NameMappings.{name-mapping-no-time, name-mapping-no-version, name-mapping-other, name-mapping-no-count, told-refused, told-no-rows, told-rows}
use Rattle.mapblock.proofs.NamesMarked.{marked-rows}
use Rattle.mapblock.proofs.Refusals.{none_becomes, part_refusal, part_done}
use Rattle.wire.proofs.Handed.{handed_on}
use Rattle.mapblock.proofs.names.name_mapping.Goals as goal

pub returns-in_err-timestamp : goal.returns-in_err-timestamp
returns-in_err-timestamp c =
    let a = c.args in
    let none = c.in_err-timestamp.ensures in
    let p = told-refused a.ids.now a.s.now (name-mapping-no-time _ _ (by_number 4 _ (told_number 4) c.number_at.ensures none.ok_part)) in
    rw (none_becomes _ c.from_residual.ensures.1 none.value none.ok_part c.ends.ensures) record { told = p.0; marked = p.1 }

pub returns-in_err-zero : goal.returns-in_err-zero
returns-in_err-zero c =
    let a = c.args in
    let time = by_number 4 _ (told_number 4) c.number_at.ensures c.in_ok-timestamp.ensures.ok_part in
    let none = c.in_err-zero.ensures in
    let p = told-refused a.ids.now a.s.now (name-mapping-no-version _ _ time (by_number 1 _ (told_number 1) c.number_at-2.ensures none.ok_part)) in
    rw (none_becomes _ c.from_residual-in_err-zero.ensures.1 none.value none.ok_part c.ends-2.ensures) record { told = p.0; marked = p.1 }

pub returns-then-zero-ne0 : goal.returns-then-zero-ne0
returns-then-zero-ne0 c =
    let a = c.args in
    let time = by_number 4 _ (told_number 4) c.number_at.ensures c.in_ok-timestamp.ensures.ok_part in
    let zero_is = by_number 1 _ (told_number 1) c.number_at-2.ensures c.in_ok-zero.ensures.ok_part in
    let p = told-refused a.ids.now a.s.now (name-mapping-other _ _ time zero_is c.if-zero-ne0.true) in
    record { told = p.0; marked = p.1 }

pub returns-in_err-count : goal.returns-in_err-count
returns-in_err-count c =
    let a = c.args in
    let time = by_number 4 _ (told_number 4) c.number_at.ensures c.in_ok-timestamp.ensures.ok_part in
    let zero_is = by_number 1 _ (told_number 1) c.number_at-2.ensures c.in_ok-zero.ensures.ok_part ∙ ap (λ (x : ℕ). done x 1) c.if-zero-ne0.false in
    let none = c.in_err-count.ensures in
    let p = told-refused a.ids.now a.s.now (name-mapping-no-count _ _ time zero_is (by_number 2 _ (told_number 2) c.number_at-3.ensures none.ok_part)) in
    rw (none_becomes _ c.from_residual-in_err-count.ensures.1 none.value none.ok_part c.ends-3.ensures) record { told = p.0; marked = p.1 }

pub returns-in_err-n : goal.returns-in_err-n
returns-in_err-n c =
    let a = c.args in
    let time = by_number 4 _ (told_number 4) c.number_at.ensures c.in_ok-timestamp.ensures.ok_part in
    let zero_is = by_number 1 _ (told_number 1) c.number_at-2.ensures c.in_ok-zero.ensures.ok_part ∙ ap (λ (x : ℕ). done x 1) c.if-zero-ne0.false in
    let count = by_number 2 _ (told_number 2) c.number_at-3.ensures c.in_ok-count.ensures.ok_part in
    let e = c.name_rows.ensures in
    let marks = marked-rows a.ids.now (drop 7 a.s.now) _ e.sized (bytes_drop 7 a.s.now (λ i. (c.type_inv.s i).fits)) (rw (rest-is 7 a.s.now) at e.ids) in
    let x = part_refusal (items (name_row (free_in a.ids.now)) c.in_ok-count.count) 7 a.s.now c.name_rows.result c.in_err-n.ensures e.told (omega arith) (omega arith) in
    let p = told-no-rows a.ids.now a.s.now time zero_is count c.name_rows.new.ids x.2 marks in
    rw (handed_on _ c.from_residual-in_err-n.ensures.1, x.3) record { told = p.0; marked = p.1 }

pub returns : goal.returns
returns c =
    let a = c.args in
    let time = by_number 4 _ (told_number 4) c.number_at.ensures c.in_ok-timestamp.ensures.ok_part in
    let zero_is = by_number 1 _ (told_number 1) c.number_at-2.ensures c.in_ok-zero.ensures.ok_part ∙ ap (λ (x : ℕ). done x 1) c.if-zero-ne0.false in
    let count = by_number 2 _ (told_number 2) c.number_at-3.ensures c.in_ok-count.ensures.ok_part in
    let e = c.name_rows.ensures in
    let marks = marked-rows a.ids.now (drop 7 a.s.now) _ e.sized (bytes_drop 7 a.s.now (λ i. (c.type_inv.s i).fits)) (rw (rest-is 7 a.s.now) at e.ids) in
    let p = told-rows a.ids.now a.s.now time zero_is count c.name_rows.new.ids (part_done (items (name_row (free_in a.ids.now)) c.in_ok-count.count) 7 a.s.now c.name_rows.result c.in_ok-n.ensures e.told) marks in
    record { told = p.0; marked = p.1 }

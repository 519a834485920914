use native.Mathlib.Omega.{arith}
use mathlib.Core.Path.{ap, sym, ◌∙◌}
use Rattle.wire.specs.Read.{shift}
use Rattle.mapblock.specs.Layout.{params}
use Rattle.mapblock.proofs.Leaves.{by_number}
use Rattle.wire.specs.Told.{told_number}
use Rattle.mapblock.proofs.Entries.{nodes-refused, nodes-other, nodes-refused-2, nodes-other-2, nodes-on}
use Rattle.mapblock.proofs.Refusals.{none_becomes, part_refused, part_done}
use Rattle.wire.proofs.Handed.{handed_on}
use Rattle.mapblock.proofs.nodes.node_data.Goals as goal

pub returns-in_err-content : goal.returns-in_err-content
returns-in_err-content c =
    let a = c.args in
    let none = c.in_err-content.ensures in
    rw (none_becomes _ c.from_residual.ensures.1 none.value none.ok_part c.ends.ensures, nodes-refused a.version a.s.now (by_number 1 _ (told_number 1) c.number_at.ensures none.ok_part))

pub returns-then-from-width : goal.returns-then-from-width
returns-then-from-width c =
    let a = c.args in
    let first = by_number 1 _ (told_number 1) c.number_at.ensures c.in_ok-content.ensures.ok_part in
    rw (c.from-then-from-width.ensures, nodes-other a.version a.s.now first (omega arith))

pub returns-in_err-two : goal.returns-in_err-two
returns-in_err-two c =
    let a = c.args in
    let first = by_number 1 _ (told_number 1) c.number_at.ensures c.in_ok-content.ensures.ok_part in
    let none = c.in_err-two.ensures in
    rw (none_becomes _ c.from_residual-in_err-two.ensures.1 none.value none.ok_part c.ends-2.ensures, nodes-refused-2 a.version a.s.now first (omega arith) (by_number 1 _ (told_number 1) c.number_at-2.ensures none.ok_part))

pub returns-then-two-ne-PARAMS_WIDTH : goal.returns-then-two-ne-PARAMS_WIDTH
returns-then-two-ne-PARAMS_WIDTH c =
    let a = c.args in
    let first = by_number 1 _ (told_number 1) c.number_at.ensures c.in_ok-content.ensures.ok_part in
    let second = by_number 1 _ (told_number 1) c.number_at-2.ensures c.in_ok-two.ensures.ok_part in
    rw (nodes-other-2 a.version a.s.now first (omega arith) second (omega arith))

pub returns-in_err-n : goal.returns-in_err-n
returns-in_err-n c =
    let a = c.args in
    let first = by_number 1 _ (told_number 1) c.number_at.ensures c.in_ok-content.ensures.ok_part in
    let second = by_number 1 _ (told_number 1) c.number_at-2.ensures c.in_ok-two.ensures.ok_part in
    let ready = nodes-on a.version a.s.now first (omega arith) second (omega arith) in
    rw (handed_on _ c.from_residual-in_err-n.ensures.1)
    (part_refused (params a.version) 2 a.s.now c.params.result c.in_err-n.ensures c.params.ensures (omega arith) (omega arith) (λ e q k. ap (shift 2 (λ x. x)) k ∙ sym ready))

pub returns : goal.returns
returns c =
    let a = c.args in
    let first = by_number 1 _ (told_number 1) c.number_at.ensures c.in_ok-content.ensures.ok_part in
    let second = by_number 1 _ (told_number 1) c.number_at-2.ensures c.in_ok-two.ensures.ok_part in
    let ready = nodes-on a.version a.s.now first (omega arith) second (omega arith) in
    ap (shift 2 (λ x. x)) (part_done (params a.version) 2 a.s.now c.params.result c.in_ok-n.ensures c.params.ensures) ∙ sym ready

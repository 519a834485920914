use mathlib.Core.Path.{◌≡◌, sym, ◌∙◌}
use mathlib.Core.Bool.{true}
use native.Mathlib.Omega.{arith}
use lib.ListN.{drop}
use Rattle.wire.specs.Marks.{starts}
use Rattle.mapblock.specs.Inventory.{end_line}
use Rattle.mapblock.proofs.Lines.{line-none, line-here, line_other, line-begins, line-inside, inventory-ended}
use Rattle.mapblock.proofs.inventory.inventory.Goals.{else-fresh-via-then-fresh+then-s-at-eq-FIRST_BYTE+else-mark_at, else-fresh-via-then-fresh+else-s-at-eq-FIRST_BYTE, else-fresh-via-else-fresh}
use Rattle.mapblock.proofs.inventory.inventory.Goals as goal

pub returns-then-mark_at : goal.returns-then-mark_at
returns-then-mark_at c =
    let marked : starts end_line (drop c.loop-at.at c.args.s.now) ≡ true = sym c.mark_at.ensures ∙ c.if-mark_at.true in
    let l = c.loop-at in
    inventory-ended _ (sym l.invariant ∙ line-here _ l.at (omega arith) c.if-fresh.true marked)

pub loop-at-preserved : goal.loop-at-preserved
loop-at-preserved c =
    let l = c.loop-at in
    elim c.else-fresh.branch [
      | else-fresh-via-then-fresh+then-s-at-eq-FIRST_BYTE+else-mark_at w ↦ sym (line_other _ l.at (omega arith) w.if-fresh.true (sym w.mark_at.ensures ∙ w.if-mark_at.false)) ∙ l.invariant
      | else-fresh-via-then-fresh+else-s-at-eq-FIRST_BYTE w ↦ sym (line_other _ l.at (omega arith) w.if-fresh.true (line-begins _ l.at (omega arith) w.if-s-at-eq-FIRST_BYTE.false)) ∙ l.invariant
      | else-fresh-via-else-fresh w ↦ sym (line-inside _ l.at (omega arith) w.if-fresh.false) ∙ l.invariant
    ]

pub returns : goal.returns
returns c =
    let l = c.loop-at in rw c.ends.ensures (inventory-ended _ (sym l.invariant ∙ line-none _ l.at l.fresh (omega arith)))

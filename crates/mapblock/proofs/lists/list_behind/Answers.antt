use native.Mathlib.Omega.{arith}
use Rattle.wire.specs.Formats.{listed}
use Rattle.mapblock.specs.ListKinds.{row_after}
use Rattle.mapblock.proofs.TaggedLists.{behind-tag}
use Rattle.mapblock.proofs.Refusals.{part_refused, part_done}
use Rattle.wire.proofs.Handed.{handed_on}
use Rattle.mapblock.proofs.lists.list_behind.Goals as goal

pub returns-in_err-n : goal.returns-in_err-n
returns-in_err-n c =
    let a = c.args in
    rw (handed_on _ c.from_residual.ensures.1)
    (part_refused (listed 2 (row_after a.kind a.version)) a.at a.s.now c.listed.result c.in_err-n.ensures c.listed.ensures (omega arith) (omega arith) (λ e p k. behind-tag (listed 2 (row_after a.kind a.version)) a.tag a.at a.s.now k))

pub returns : goal.returns
returns c =
    let a = c.args in
    behind-tag (listed 2 (row_after a.kind a.version)) a.tag a.at a.s.now (part_done (listed 2 (row_after a.kind a.version)) a.at a.s.now c.listed.result c.in_ok-n.ensures c.listed.ensures)

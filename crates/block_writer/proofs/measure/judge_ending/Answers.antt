use borrow.Author.Rules.{rules}
use Prim.Native.Nat.{◌<◌}
use Rattle.wire.specs.Bytes.{Bytes}
use Rattle.mapblock.specs.Table.{free_in}
use Rattle.block_writer.specs.Judging.{mapping_on}
use Rattle.block_writer.proofs.BlockJudging.{name-mapping-settled, ending-late, ending-refused, ending-on}
use Rattle.wire.proofs.Handed.{handed_on}
use Rattle.block_writer.proofs.measure.judge_ending.Goals as goal

pub returns-then-parts-ge29-clause-told : goal.returns-then-parts-ge29-clause-told
returns-then-parts-ge29-clause-told c = λ l k x y f. ending-late c.args.parts.now.head l k c.if-parts-ge29.true (c.judge_late_timers.ensures.told k y f)

pub returns-in_err-n-clause-told : goal.returns-in_err-n-clause-told
returns-in_err-n-clause-told c =
    let h = c.args.parts.now.head in
    let b : Bytes c.args.parts.now.names.now = c.requires.typed.names in
    let time : h.timestamp < 4294967296 = search rules in
    λ l k x y f.
    let name_mapping = mapping_on h l in
    rw (handed_on _ c.from_residual.ensures.1) (ending-refused h l k c.if-parts-ge29.false (name-mapping-settled (free_in c.args.ids.now) name_mapping b time x) (c.in_err-n.ensures.told name_mapping time x))

pub returns-clause-told : goal.returns-clause-told
returns-clause-told c =
    let h = c.args.parts.now.head in
    let b : Bytes c.args.parts.now.names.now = c.requires.typed.names in
    let time : h.timestamp < 4294967296 = search rules in
    λ l k x y f.
    let name_mapping = mapping_on h l in
    ending-on h l k c.if-parts-ge29.false (name-mapping-settled (free_in c.args.ids.now) name_mapping b time x) (c.in_ok-n.ensures.told name_mapping time x)
    (c.judge_late_timers-2.ensures.told k y f) c.shift.ensures

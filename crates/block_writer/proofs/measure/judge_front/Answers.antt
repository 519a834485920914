use borrow.Author.Rules.{rules}
use Prim.Native.Nat.{◌<◌}
use Rattle.wire.specs.Bytes.{Bytes}
use Rattle.mapblock.specs.Table.{free_in}
use Rattle.block_writer.specs.Judging.{mapping_on}
use Rattle.block_writer.proofs.BlockJudging.{opening-ok, name-mapping-settled, front-plain, front-refused, front-named}
use Rattle.wire.proofs.Handed.{handed_on}
use Rattle.block_writer.proofs.measure.judge_front.Goals as goal

pub returns-then-head-lt29-clause-told : goal.returns-then-head-lt29-clause-told
returns-then-head-lt29-clause-told c =
    let h = c.args.head in
    λ l n x i f k.
    front-plain h l n (opening-ok h (search rules) (search rules) (search rules) i f) k c.opening_length-opening.ensures c.lists_length-nodes.ensures c.if-head-lt29.true

pub returns-in_err-n-clause-told : goal.returns-in_err-n-clause-told
returns-in_err-n-clause-told c =
    let h = c.args.head in
    let b : Bytes c.args.names.now = λ i. (c.type_inv.names i).fits in
    let time : h.timestamp < 4294967296 = search rules in
    λ l n x i f k.
    let name_mapping = mapping_on h l in
    rw (handed_on _ c.from_residual.ensures.1) (front-refused h l n (opening-ok h (search rules) (search rules) (search rules) i f) k c.opening_length-opening.ensures c.lists_length-nodes.ensures c.if-head-lt29.false
    (name-mapping-settled (free_in c.args.ids.now) name_mapping b time x) (c.judge_name_mapping.ensures.told name_mapping time x) c.in_err-n.ensures)

pub returns-clause-told : goal.returns-clause-told
returns-clause-told c =
    let h = c.args.head in
    let b : Bytes c.args.names.now = λ i. (c.type_inv.names i).fits in
    let time : h.timestamp < 4294967296 = search rules in
    λ l n x i f k.
    let name_mapping = mapping_on h l in
    front-named h l n (opening-ok h (search rules) (search rules) (search rules) i f) k c.opening_length-opening.ensures c.lists_length-nodes.ensures c.if-head-lt29.false
    (name-mapping-settled (free_in c.args.ids.now) name_mapping b time x) (c.judge_name_mapping.ensures.told name_mapping time x) c.in_ok-n.ensures

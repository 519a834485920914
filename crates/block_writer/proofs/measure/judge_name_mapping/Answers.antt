use Rattle.wire.specs.Bytes.{Bytes}
use Rattle.mapblock.proofs.NamesMarked.{marked-rows}
use Rattle.block_writer.proofs.RowsJudging.{judged-name-mapping}
use Rattle.block_writer.proofs.measure.judge_name_mapping.Goals as goal

pub returns-clause-told : goal.returns-clause-told
returns-clause-told c =
    let a = c.args in
    let b : Bytes a.names.now = λ i. (c.type_inv.names i).fits in
    let h = c.name_rows.ensures in
    judged-name-mapping b h.told (marked-rows a.ids.now a.names.now a.count h.sized b h.ids) c.shift.ensures

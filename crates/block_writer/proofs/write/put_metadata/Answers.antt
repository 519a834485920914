use Rattle.wire.specs.Bytes.{to_be}
use Rattle.mapblock.specs.Layout.{list_version_bytes, list_version_of}
use Rattle.wire.specs.Store.{PutAt}
use Rattle.wire.proofs.Puts.{put_two}
use Rattle.block_writer.proofs.write.put_metadata.Goals as goal

pub returns : goal.returns
returns c =
    let a = c.args in
    let h = a.head in
    let put : PutAt a.at (to_be (list_version_bytes h.version) (list_version_of h.version h.form)) a.out.now c.put_list_version-rows_at.new.out c.put_list_version-rows_at.result = rw (← c.list_version_of.ensures) c.put_list_version-rows_at.ensures in
    put_two {u = to_be (list_version_bytes h.version) (list_version_of h.version h.form)} c.requires put (λ _. c.put_list_if.ensures)

use Prim.Native.Nat.{◌+◌, ◌*◌}
use mathlib.Core.Path.{◌∙◌}
use native.Mathlib.Omega.{arith}
use Rattle.mapblock.specs.Layout.{width}
use Rattle.mapblock.proofs.Entries.{stored-part}
use Rattle.block_reader.proofs.read.fill.Goals as goal

pub returns-clause-param1 : goal.returns-clause-param1
returns-clause-param1 c =
    let a = c.args in
    let w = c.width-at.result in
    c.put_bytes.ensures ∙ stored-part a.s.now a.param1.now (4096 * w) (4096 * w + 4096) (4096 * width a.version) (omega arith) (omega arith) (omega arith) (omega arith)

pub returns-clause-param2 : goal.returns-clause-param2
returns-clause-param2 c =
    let a = c.args in
    let w = c.width-at.result in
    c.put_bytes-2.ensures ∙ stored-part a.s.now a.param2.now (4096 * w + 4096) (4096 * w + 8192) (4096 * width a.version + 4096) (omega arith) (omega arith) (omega arith) (omega arith)

use Rattle.std.proofs.Common.{ℕ, ◌≤◌, List, drop, sym, arith, rules}
use lib.ListN.{length-take}
use Rattle.sheetcount_lib.proofs.Counts.{bytes-read, at-most, record-within}
use Rattle.sheetcount_lib.proofs.reading.read_record.Goals as goal

-- no more is read than the record has
pub returns-clause-told : goal.returns-clause-told
returns-clause-told g c = at-most c.read_block.result (omega (arith, c.in-Ok.ensures.short)) c.read_block.ensures.told

pub returns-clause-inside : goal.returns-clause-inside
returns-clause-inside g c =
    let behind : List ℕ = drop 12 c.args.bytes.now in
    let short : c.in_ok-head.head ≤ 12 = omega (arith, c.in_ok-head.ensures.told, length-take 12 c.args.bytes.now) in
    record-within _ c.in_ok-head.head c.in-Ok.size short (bytes-read c.read_bytes.new.bytes behind (search rules) c.read_bytes.ensures.bytes) (sym c.in-Ok.ensures.told) _ c.read_block.result c.read_block.ensures.bytes c.read_block.ensures.told

use Rattle.std.proofs.Common.{ℕ, ◌<◌, ◌^◌, List, ◌++◌, take, drop, arith, rules}
use Rattle.wire.specs.Told.{told_head}
use Rattle.wire.proofs.Steps.{told-as}
use Rattle.wire.proofs.Handed.{handed_on}
use Rattle.sheetcount_lib.proofs.Counts.{bytes-read}
use Rattle.sheetcount_lib.proofs.Whole.{counted-headless, counted-behind, if-read, none-error}
use Rattle.sheetcount_lib.proofs.reading.read_sheet.Goals as goal

pub returns-in_err-count : goal.returns-in_err-count
returns-in_err-count g c =
    let behind : List ℕ = drop 9 c.args.buffers.now.record in
    let no = c.in_err-count.ensures in
    rw (handed_on _ c.from_residual-in_err-count.ensures.1, none-error no.value no.ok_part)
    (counted-headless (take c.in_ok-got.got (c.read_bytes.new.bytes ++ behind)) c.args.out.now (bytes-read c.read_bytes.new.bytes behind (search rules) c.read_bytes.ensures.bytes) (told-as told_head c.sheet_head.ensures no.ok_part))

pub returns : goal.returns
returns g c =
    let fits : c.in_ok-count.count < 256 ^ 4 = omega arith in
    if-read (counted-behind c.in_ok-count.count fits) c.take_all.result c.take_all.ensures

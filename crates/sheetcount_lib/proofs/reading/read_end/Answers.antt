use Rattle.std.proofs.Common.{List, ℕ, ◌++◌, take, drop, rules}
use Rattle.wire.proofs.Handed.{handed_on}
use Rattle.sheetcount_lib.proofs.Counts.{bytes-read}
use Rattle.sheetcount_lib.proofs.reading.read_end.Goals as goal

pub returns-in_err-end_sheet : goal.returns-in_err-end_sheet
returns-in_err-end_sheet g c =
    let behind : List ℕ = drop 1 c.args.buffers.now.record in
    rw (handed_on _ c.from_residual-in_err-end_sheet.ensures.1)
    (record {
      s = take c.in_ok-n.n (c.read_bytes.new.bytes ++ behind);
      bytes = bytes-read c.read_bytes.new.bytes behind (search rules) c.read_bytes.ensures.bytes;
      answered = λ w h. c.in_err-end_sheet.ensures.told w h (search rules) (search rules);
    })

pub returns : goal.returns
returns g c =
    let behind : List ℕ = drop 1 c.args.buffers.now.record in
    record {
      s = take c.in_ok-n.n (c.read_bytes.new.bytes ++ behind);
      bytes = bytes-read c.read_bytes.new.bytes behind (search rules) c.read_bytes.ensures.bytes;
      answered = λ w h. c.in_ok-end_sheet.ensures.told w h (search rules) (search rules);
    }

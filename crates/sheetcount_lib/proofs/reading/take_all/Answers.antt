use Rattle.std.proofs.Common.{ℕ, List, ◌≡◌, ◌+◌, ◌-◌, suc, take, arith}
use Rattle.wire.specs.Bytes.{Bytes, bytes_take}
use Rattle.sheetcount_lib.proofs.Going.{going_start, going-stop, going_on, going_end}
use Rattle.wire.proofs.Handed.{handed_on}
use Rattle.sheetcount_lib.proofs.Whole.{if-read}
use Rattle.sheetcount_lib.proofs.reading.take_all.Goals as goal

pub loop-init : goal.loop-init
loop-init g c = going_start (omega arith) c.requires.0 c.requires.1

pub returns-in_err-now : goal.returns-in_err-now
returns-in_err-now g c =
    let s : List ℕ = take c.in_ok-n.n c.read_record.new.bytes in
    let are-bytes : Bytes s = bytes_take c.in_ok-n.n c.read_record.new.bytes c.read_record.ensures.bytes in
    let one_more : c.args.count - c.loop.counter ≡ suc (c.args.count - (c.loop.counter + 1)) = omega (arith, c.loop-test.true) in
    rw (handed_on _ c.from_residual-in_err-now.ensures.1)
    (going-stop c.loop.invariant c.ranges.count.fits one_more s c.take_next.new.spare c.take_next.new.tables.census.counts are-bytes c.take_next.result c.take_next.ensures.told c.in_err-now.was c.args.out.now)

pub loop-preserved : goal.loop-preserved
loop-preserved g c =
    let s : List ℕ = take c.in_ok-n.n c.read_record.new.bytes in
    let are-bytes : Bytes s = bytes_take c.in_ok-n.n c.read_record.new.bytes c.read_record.ensures.bytes in
    let one_more : c.args.count - c.loop.counter ≡ suc (c.args.count - (c.loop.counter + 1)) = omega (arith, c.loop-test.true) in
    going_on c.loop.invariant c.ranges.count.fits one_more s c.take_next.new.spare c.take_next.new.tables.census.counts are-bytes c.take_next.result c.take_next.ensures.told c.take_next.ensures.ids c.in_ok-now.was

pub returns : goal.returns
returns g c =
    if-read (going_end c.loop.invariant (omega (arith, c.loop-test.false)) c.args.out.now _) c.read_end.result c.read_end.ensures

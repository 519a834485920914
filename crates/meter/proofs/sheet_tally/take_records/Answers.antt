use Rattle.std.proofs.Common.{◌≡◌, ◌+◌, ◌-◌, ◌<◌, suc, length, arith, rules}
use Rattle.meter.proofs.Walking.{walking-more, walking-end, walking-stop, walking_on, begins}
use Rattle.meter.proofs.sheet_tally.take_records.Goals as goal

pub returns-in_err-next-clause-told : goal.returns-in_err-next-clause-told
returns-in_err-next-clause-told c =
    let l = c.loop in
    let x = c.take_record in
    let one_more : c.args.count - l.counter ≡ suc (c.args.count - (l.counter + 1)) = omega (arith, c.loop-test.true) in
    λ i d w g m f. search (rules, walking-stop l.invariant one_more x.new.tables.census.counts x.new.spare x.result x.ensures.told c.in_err-next.was c.args.out.now w (begins g m i d) f)

pub loop-preserved : goal.loop-preserved
loop-preserved c =
    let l = c.loop in
    let x = c.take_record in
    let one_more : c.args.count - l.counter ≡ suc (c.args.count - (l.counter + 1)) = omega (arith, c.loop-test.true) in
    walking_on l.invariant one_more x.new.tables.census.counts x.new.spare x.result x.ensures.told x.ensures.ids x.ensures.spare c.in_ok-next.was

pub returns-then-not-is_empty-clause-told : goal.returns-then-not-is_empty-clause-told
returns-then-not-is_empty-clause-told c =
    let l = c.loop in
    let more : 0 < length l.rest.now = search rules in
    λ i d w g m f. walking-more l.invariant (omega (arith, c.loop-test.false)) more c.args.out.now w (begins g m i d) f

pub returns-clause-told : goal.returns-clause-told
returns-clause-told c =
    let l = c.loop in
    let none : length l.rest.now ≡ 0 = search rules in
    λ i d w g m f. walking-end l.invariant (omega (arith, c.loop-test.false)) none c.args.out.now c.finish.new.out c.finish.result c.finish.ensures.told w (begins g m i d) f

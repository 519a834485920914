use Rattle.std.proofs.Common.{arith, rules}
use Rattle.meter.proofs.Putting.{put-headless, put-nothing, put-rows, put-size, put-all}
use Rattle.meter.proofs.block_tally.put_tally.Goals as goal

pub returns-then-out-lt-HEAD_LENGTH : goal.returns-then-out-lt-HEAD_LENGTH
returns-then-out-lt-HEAD_LENGTH c = λ b f. put-headless c.args.part c.args.at (λ i. (c.type_inv.block i).fits) f c.args.out.now c.if-out-lt-HEAD_LENGTH.true

pub returns-in_err-size : goal.returns-in_err-size
returns-in_err-size c =
    let no = c.in_err-size.ensures in
    let x = c.add_block-sum.ensures in
    λ b f. search (rules, put-nothing c.args.part c.args.at (λ i. (c.type_inv.block i).fits) f c.args.out.now c.if-out-lt-HEAD_LENGTH.false x.kept c.new-tables.ensures c.empty.ensures (λ R. x.told b R) no.ok_part)

pub overflow_cast-rows : goal.overflow_cast-rows
overflow_cast-rows c =
    let (b, f) = c.requires in
    let x = c.add_block-sum.ensures in
    let few = put-rows c.args.part c.args.at (λ i. (c.type_inv.block i).fits) f c.args.out.now c.if-out-lt-HEAD_LENGTH.false x.kept c.new-tables.ensures c.empty.ensures (λ R. x.told b R) c.in_ok-size.ensures.ok_part in
    record { fits = omega (arith, few) }

pub overflow_add-result : goal.overflow_add-result
overflow_add-result c =
    let (b, f) = c.requires in
    let x = c.add_block-sum.ensures in
    let inside = put-size c.args.part c.args.at (λ i. (c.type_inv.block i).fits) f c.args.out.now c.if-out-lt-HEAD_LENGTH.false x.kept c.new-tables.ensures c.empty.ensures (λ R. x.told b R) c.in_ok-size.ensures.ok_part in
    record { fits = omega (arith, inside, c.well_formed) }

pub returns : goal.returns
returns c =
    let x = c.add_block-sum.ensures in
    λ b f. put-all c.args.part c.args.at (λ i. (c.type_inv.block i).fits) f c.args.out.now c.if-out-lt-HEAD_LENGTH.false x.kept c.new-tables.ensures c.empty.ensures (λ R. x.told b R) c.in_ok-size.ensures.ok_part c.put_head.ensures

use Rattle.std.proofs.Common.{◌≡◌, ◌+◌, ◌*◌, refl, sym, ap₂, ◌∙◌, arith}
use Rattle.wire.specs.Order.{order}
use Rattle.wire.proofs.Lists.{rest-is}
use Rattle.wire.proofs.Orders.{word_at, words-apart, words-same}
use Rattle.wire.proofs.order.compare.Goals as goal

pub loop-word-init : goal.loop-word-init
loop-word-init c = (omega arith, omega arith, refl)

pub returns-in_default : goal.returns-in_default
returns-in_default c =
    let at = 8 * c.loop-word.word in
    c.compare_rest.ensures ∙ ap₂ order (rest-is at c.args.a.now) (rest-is at c.args.b.now) ∙ c.loop-word.invariant.2

pub returns-then-x-y : goal.returns-then-x-y
returns-then-x-y c =
    let w = c.in-Some-Some in
    let at = 8 * c.loop-word.word in
    let first = word_at _ at w.x (λ j. (c.type_inv.a j).fits) w.ensures in
    let second = word_at _ at w.y (λ j. (c.type_inv.b j).fits) w.ensures' in
    c.cmp.ensures ∙ words-apart first second c.if-x-y.true ∙ c.loop-word.invariant.2

pub loop-word-preserved : goal.loop-word-preserved
loop-word-preserved c =
    let w = c.in-Some-Some in
    let at = 8 * c.loop-word.word in
    let first = word_at _ at w.x (λ j. (c.type_inv.a j).fits) w.ensures in
    let second = word_at _ at w.y (λ j. (c.type_inv.b j).fits) w.ensures' in
    let next : 8 * (c.loop-word.word + 1) ≡ at + 8 = omega arith in
    rw next (first.inside, second.inside, sym (words-same first second c.if-x-y.false) ∙ c.loop-word.invariant.2)

pub returns : goal.returns
returns c =
    let l = c.loop-word in
    let end : 8 * l.word ≡ 16 = omega (arith, c.loop-word-test.false, l.auto.word-end) in
    c.compare_rest-2.ensures ∙ ap₂ order (rest-is 16 c.args.a.now) (rest-is 16 c.args.b.now) ∙ (rw end at l.invariant.2)

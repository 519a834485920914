use Rattle.std.proofs.Common.{◌≡◌, true, ap, arith, rules}
use Rattle.std.proofs.lemmas.Int.{ints}
use Rattle.wire.specs.Answer.{good}
use Rattle.position.specs.Keys.{all_inside, key_of, join_of}
use Rattle.position.proofs.key.join.Goals as goal

pub overflow_add-result-2 : goal.overflow_add-result-2
overflow_add-result-2 c = omega (arith, ints, c.from.ensures, c.from-2.ensures, c.from-3.ensures)

pub returns : goal.returns
unfolding join_of key_of
returns c =
    let inside : all_inside c.args.x c.args.y c.args.z ≡ true = search (rules, c.if-not-are_inside.ensures) in
    rw inside (ap good (omega (arith, ints, c.from.ensures, c.from-2.ensures, c.from-3.ensures)))

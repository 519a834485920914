use Rattle.std.proofs.Common.{◌/◌, ◌≤◌, length, sym, ◌∙◌, arith}
use Rattle.census.proofs.Halves.{sort-few, half_is, Halved, halved-end}
use Rattle.census.proofs.sort.+sort_halves.Goals as goal

pub returns-then-places-lt2 : goal.returns-then-places-lt2
returns-then-places-lt2 t c = sort-few _ _ c.if-places-lt2.true

-- both halves came back in order, and joining them puts the whole in order
pub returns : goal.returns
returns t c =
    let a = c.args.places.now in
    let many : 2 ≤ length a = c.if-places-lt2.false in
    let halves : Halved c.args.s.now a c.sort_halves.new.places c.sort_halves-2.new.places c.sort_halves-2.new.scratch (length a / 2) = record {
      some = omega arith;
      more = omega arith;
      front = c.sort_halves.auto.places ∙ sym (half_is a);
      back = c.sort_halves-2.auto.places;
      room = omega (arith, c.sort_halves-2.auto.scratch, c.sort_halves.auto.scratch, c.requires);
      first = c.sort_halves.ensures;
      rest = c.sort_halves-2.ensures;
    } in
    halved-end halves c.join_halves.ensures.sorted

-- Keys, lots and spans as a host is handed them: the number, and the values, which are 0 on a refusal.
use Rattle.std.specs.Prelude.{ℕ, Bool, cond, ℤ, pos}
use Rattle.wire.specs.Answer.{Answer, good, refusal, plain, bad_part}
use Rattle.wire.specs.Choice.{bit}
use Rattle.position.specs.declared.key.Coordinates.{Coordinates}
use Rattle.position.specs.declared.lot.Lot.{Lot}
use Rattle.position.specs.declared.span.Span.{Span}
use Rattle.position.specs.Lots.{good_lot, in_lot}
use Rattle.position.specs.Spans.{good_span, in_span}
use Rattle.anowhetele.specs.declared.places.AnowKey.{AnowKey}
use Rattle.anowhetele.specs.declared.places.AnowCoordinates.{AnowCoordinates}
use Rattle.anowhetele.specs.declared.places.AnowInside.{AnowInside}

-- membership, asked of a good lot or span alone
abbrev pub asked : Bool → Bool → Answer Bool
asked fit has = cond fit (good has) (plain bad_part)

abbrev pub lot_has : Lot → ℤ → ℤ → ℤ → Answer Bool
lot_has l x y z = asked (good_lot l) (in_lot l x y z)

abbrev pub span_has : Span → ℕ → Answer Bool
span_has s t = asked (good_span s) (in_span s t)

abbrev pub handed_key : Answer ℤ → AnowKey
handed_key (good k) = record { number = 0; key = k }
handed_key (refusal n r o) = record { number = n; key = pos 0 }

abbrev pub handed_coordinates : Answer Coordinates → AnowCoordinates
handed_coordinates (good c) = record { number = 0; x = c.x; y = c.y; z = c.z }
handed_coordinates (refusal n r o) = record { number = n; x = pos 0; y = pos 0; z = pos 0 }

abbrev pub handed_inside : Answer Bool → AnowInside
handed_inside (good b) = record { number = 0; inside = bit b }
handed_inside (refusal n r o) = record { number = n; inside = 0 }

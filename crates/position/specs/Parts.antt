-- Parts of the world: document 01, 'Cuts and merges', a part is a lot with a span.
use Rattle.std.specs.Prelude.{Bool, ◌&&◌}
use Rattle.position.specs.Lots.{good_lot}
use Rattle.position.specs.Spans.{good_span}
use Rattle.position.specs.declared.lot.Lot.{Lot}
use Rattle.position.specs.declared.span.Span.{Span}
use Rattle.position.specs.declared.part.Part.{Part}

abbrev pub part_at : Lot → Span → Part
part_at l s = record { lot = l; span = s }

-- neither is bad
abbrev pub good_part : Part → Bool
good_part p = good_lot p.lot && good_span p.span

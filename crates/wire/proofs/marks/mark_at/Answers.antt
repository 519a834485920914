use mathlib.Core.Path.{ap, ◌∙◌}
use Rattle.wire.specs.Marks.{starts}
use Rattle.wire.proofs.Starts.{starts-with, rest-from}
use Rattle.wire.proofs.marks.mark_at.Goals as goal

pub returns : goal.returns
returns c = let a = c.args in c.starts_with.ensures.value ∙ starts-with a.mark.now _ ∙ ap (starts a.mark.now) (rest-from a.at a.s.now c.min.ensures)

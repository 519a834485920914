use mathlib.Core.Path.{refl, ◌∙◌}
use Rattle.wire.specs.Told.{short}
use Rattle.wire.proofs.Headed.{head-found}
use Rattle.sheet.specs.Sheet.{misframed, sheet_mark}
use Rattle.sheet.proofs.head.sheet_head.Goals as goal

pub returns : goal.returns
returns c = c.read_head.ensures ∙ head-found sheet_mark refl c.args.s.now short misframed

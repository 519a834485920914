use mathlib.Core.Path.{refl, ◌∙◌}
use Rattle.wire.specs.Told.{short}
use Rattle.wire.proofs.Headed.{head-found}
use Rattle.tally.specs.Tally.{malformed, tally_mark}
use Rattle.tally.proofs.head.stated_rows.Goals as goal

pub returns : goal.returns
returns c = c.read_head.ensures ∙ head-found tally_mark refl c.args.t.now short malformed

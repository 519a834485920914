use Rattle.std.proofs.Common.{sym, refl, ◌∙◌}
use Rattle.census.specs.Counters.{wide_id}
use Rattle.census.proofs.Raises.{table, raised-run, four_same}
use Rattle.census.proofs.count.count_four.Goals as goal

pub returns-then-d-id : goal.returns-then-d-id
returns-then-d-id c =
    raised-run (wide_id c.args.lists.now) c.args.i 4 _ (table c.told-counts c.fits-counts) c.wide_id-id.ensures.bounded
    (four_same (wide_id c.args.lists.now) c.args.i _ (sym c.wide_id-id.ensures.told) (sym c.wide_id-b.ensures.told ∙ c.if-b-id.true) (sym c.wide_id-c.ensures.told ∙ c.if-c-id.true) (sym c.wide_id-d.ensures.told ∙ c.if-d-id.true))
    refl

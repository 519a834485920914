use Rattle.std.proofs.Common.{arith}
use Rattle.running_tally.proofs.Filling.{spread_none, spread-filled}
use Rattle.running_tally.proofs.absorb.spread.Goals as goal

pub returns-then-missing-eq0 : goal.returns-then-missing-eq0
returns-then-missing-eq0 c G W T y = let a = c.args in spread_none a.names.rows.now a.names.counts.now a.names.places.now a.buffer.now a.size a.missing G W T y c.if-missing-eq0.true

pub returns : goal.returns
returns c G W T y =
    let a = c.args in
    spread-filled a.names.rows.now a.names.counts.now a.names.places.now a.buffer.now a.size a.missing G W T y (omega arith) _ c.move_back.ensures _ c.fill.ensures

use Rattle.tally.proofs.LookingUp.{looks-up-end, looks-up-on, looks-up-row, looks-up-over}
use Rattle.tally.proofs.lookup.look_up.Goals as goal

pub loop-n-preserved : goal.loop-n-preserved
loop-n-preserved c = looks-up-on c.loop-n.invariant _ _ c.in-Some.ensures c.in-Less.ensures

pub returns-in-Equal : goal.returns-in-Equal
returns-in-Equal c = looks-up-row c.loop-n.invariant c.in-Some.n c.in-Some.count c.in-Some.ensures c.in-Equal.ensures

pub returns-in-Greater : goal.returns-in-Greater
returns-in-Greater c = looks-up-over c.loop-n.invariant c.in-Some.n c.in-Some.count c.in-Some.ensures c.in-Greater.ensures

pub returns : goal.returns
returns c = looks-up-end c.loop-n.invariant c.in_default.ensures

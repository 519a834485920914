use Rattle.std.proofs.Common.{rules}
use Rattle.census.proofs.RowsAt.{row-beyond, row-refused, row-id}
use Rattle.census.proofs.places.id_at.Goals as goal

pub returns-in_default-clause-told : goal.returns-in_default-clause-told
returns-in_default-clause-told c = search (rules, row-beyond c.args.s.now c.args.p)

pub returns-in_default-name_row-clause-told : goal.returns-in_default-name_row-clause-told
returns-in_default-name_row-clause-told c = search (rules, row-refused c.args.s.now c.args.p)

pub returns-clause-told : goal.returns-clause-told
returns-clause-told c = search (rules, row-id c.args.s.now c.args.p)

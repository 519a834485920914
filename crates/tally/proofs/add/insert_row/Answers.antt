use native.Mathlib.Omega.{arith}
use Rattle.tally.proofs.Opening.{row_opened}
use Rattle.tally.proofs.add.insert_row.Goals as goal

pub returns : goal.returns
returns c =
    let a = c.args in
    row_opened a.n (record { name = a.name.now; count = a.count }) a.tail.now _ _ (omega arith) c.requires.1 c.move_back.ensures c.put_row.ensures

use Rattle.tally.proofs.Heads.{head-put}
use Rattle.tally.proofs.head.put_head.Goals as goal

pub returns : goal.returns
returns c = let a = c.args in head-put a.count a.out.now c.put_head.ensures

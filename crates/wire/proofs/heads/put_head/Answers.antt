use Rattle.wire.proofs.Headed.{head-put, head-not-put}
use Rattle.wire.proofs.heads.put_head.Goals as goal

pub returns-then-out-lt-HEAD_LENGTH : goal.returns-then-out-lt-HEAD_LENGTH
returns-then-out-lt-HEAD_LENGTH c = let a = c.args in head-not-put a.mark.now c.told-mark a.number a.out.now c.if-out-lt-HEAD_LENGTH.true

pub returns : goal.returns
returns c =
    let a = c.args in
    head-put a.mark.now c.told-mark a.number a.out.now c.if-out-lt-HEAD_LENGTH.false c.put_bytes.ensures c.put_number.ensures c.put_number-2.ensures

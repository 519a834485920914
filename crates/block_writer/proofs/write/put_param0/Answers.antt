use Rattle.block_writer.proofs.Entries.{narrow-put, wide-put}
use Rattle.block_writer.proofs.write.put_param0.Goals as goal

pub returns-then-version-lt24 : goal.returns-then-version-lt24
returns-then-version-lt24 c = let a = c.args in narrow-put a.version a.at a.param0.now a.out.now _ c.if-version-lt24.true c.put_narrow.ensures

pub returns : goal.returns
returns c = let a = c.args in wide-put a.version a.at a.param0.now a.out.now _ c.if-version-lt24.false c.put_wide.ensures

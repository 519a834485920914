use Rattle.wire.proofs.Puts.{put-run}
use Rattle.block_writer.proofs.write.put_run.Goals as goal

pub returns : goal.returns
returns c =
    put-run c.args.at c.args.run.now c.requires c.put_bytes.ensures

use Rattle.netpbm.proofs.Samples.{within_below}
use Rattle.netpbm.proofs.writer.put_samples.Goals as goal

pub put_narrow-requires : goal.put_narrow-requires
put_narrow-requires c = within_below c.args.maxval 256 c.args.samples.now c.requires c.in-One.ensures

use Rattle.std.proofs.Common.{w32}
use Rattle.std.proofs.lemmas.Int.{wrapping_sub_is}
use Rattle.samples.proofs.number.I32Sample.take.Goals as goal

pub returns : goal.returns
returns c = wrapping_sub_is w32 c.args.self c.args.other c.ranges.self c.ranges.other

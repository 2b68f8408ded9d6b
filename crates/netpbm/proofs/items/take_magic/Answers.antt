use Rattle.std.proofs.Common.{rules}
use Rattle.netpbm.specs.Reads.{magic}
use Rattle.netpbm.proofs.items.take_magic.Goals as goal

pub returns-in_err-rest : goal.returns-in_err-rest
unfolding magic
returns-in_err-rest c = search rules

pub returns : goal.returns
unfolding magic
returns c = search rules

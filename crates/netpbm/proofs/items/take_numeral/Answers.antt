use Rattle.std.proofs.Common.{rules}
use Rattle.netpbm.specs.Reads.{numeral}
use Rattle.netpbm.proofs.items.take_numeral.Goals as goal

pub returns-in_err-rest : goal.returns-in_err-rest
unfolding numeral
returns-in_err-rest c = search rules

pub returns : goal.returns
unfolding numeral
returns c = search rules

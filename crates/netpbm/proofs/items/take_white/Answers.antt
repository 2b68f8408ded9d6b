use Rattle.std.proofs.Common.{◌∙◌, rules}
use Rattle.netpbm.specs.Reads.{white}
use Rattle.netpbm.proofs.Turns.{first_is, one_first}
use Rattle.netpbm.proofs.items.take_white.Goals as goal

pub returns : goal.returns
returns c = first_is white _ _ _ _ c.take_if.ensures (λ k. search rules) ∙ one_first c.args.bytes.now

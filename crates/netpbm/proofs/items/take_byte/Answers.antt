use Rattle.std.proofs.Common.{eqb, ◌∙◌, rules}
use Rattle.netpbm.proofs.Turns.{first_is, byte_first}
use Rattle.netpbm.proofs.items.take_byte.Goals as goal

pub returns : goal.returns
returns c =
    first_is (λ b. eqb b c.args.wanted) _ _ _ _ c.take_if.ensures (λ k. search rules) ∙ byte_first c.args.wanted c.args.bytes.now

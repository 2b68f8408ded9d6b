use Rattle.std.proofs.Common.{rules}
use Rattle.netpbm.specs.Reads.{opens}
use Rattle.netpbm.proofs.Turns.{first_is, gap_first}
use Rattle.netpbm.proofs.items.take_gap.Goals as goal

pub returns-in_err-take_if : goal.returns-in_err-take_if
returns-in_err-take_if c =
    let first = first_is opens _ _ _ _ c.in_err-take_if.ensures (λ k. search rules) in
    let gap = gap_first c.args.bytes.now in
    search rules

pub returns : goal.returns
returns c =
    let first = first_is opens _ _ _ _ c.in_ok-take_if.ensures (λ k. search rules) in
    let gap = gap_first c.args.bytes.now in
    search rules

use Rattle.std.proofs.Common.{◌≤◌, false, length, ap, ◌∙◌, arith, ltb-false}
use Rattle.netpbm.specs.Reads.{skipped}
use Rattle.netpbm.proofs.Turns.{skip_hash}
use Rattle.netpbm.proofs.items.skip_gap.Goals as goal

pub loop-rest-preserved-in-35 : goal.loop-rest-preserved-in-35
loop-rest-preserved-in-35 c =
    let bs = c.loop-rest.rest.now in
    let long : 1 ≤ length bs = omega (arith, ltb-false) in
    ap (skipped false) c.skip_line-rest.ensures ∙ skip_hash bs long (omega arith) ∙ c.loop-rest.invariant

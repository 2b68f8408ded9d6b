use Rattle.std.proofs.Common.{◌≡◌, false, length}
use Rattle.netpbm.specs.Reads.{skipped}
use Rattle.netpbm.proofs.items.skip_gap.Given as goal

abbrev pub invariant-loop-rest : goal.invariant-loop-rest
invariant-loop-rest l = skipped false l.rest ≡ skipped false l.initial.rest

abbrev pub decreases-loop-rest : goal.decreases-loop-rest
decreases-loop-rest l = length l.rest

use Rattle.std.proofs.Common.{◌≡◌, ◌^◌, ◌<◌, length}
use Rattle.netpbm.specs.Reads.{value_on, after_digits}
use Rattle.netpbm.specs.Seen.{capped}
use Rattle.netpbm.proofs.items.read_digits.Given as goal

abbrev pub invariant-loop-rest : goal.invariant-loop-rest
invariant-loop-rest l =
    (capped (value_on l.n l.rest) ≡ capped (value_on 0 l.initial.rest))
    × (after_digits l.rest ≡ after_digits l.initial.rest)
    × (l.n < 2 ^ 64)

abbrev pub decreases-loop-rest : goal.decreases-loop-rest
decreases-loop-rest l = length l.rest

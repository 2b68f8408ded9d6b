use Rattle.std.proofs.Common.{◌≡◌, ℕ, ◌<◌, true, get_or}
use Rattle.lifting.proofs.sweep.stage.all_known.Given as goal

abbrev pub invariant-loop-x : goal.invariant-loop-x
invariant-loop-x g l = (k : ℕ) → k < l.x-index → g.K.Sample.kind.held (get_or l.plane k g.K.Sample.kind.nothing) ≡ true

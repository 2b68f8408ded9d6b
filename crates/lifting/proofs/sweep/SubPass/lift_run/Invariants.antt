use Rattle.std.proofs.Common.{◌≡◌}
use Rattle.lifting.specs.Runs.{run_of, sweep_of}
use Rattle.lifting.proofs.sweep.SubPass.lift_run.Given as goal

abbrev pub invariant-loop-k : goal.invariant-loop-k
invariant-loop-k g l = l.plane ≡ run_of (sweep_of g.S.Sample.Sample g.S.Step g.B.BreakSource l.self) l.flags l.track l.k l.initial.plane

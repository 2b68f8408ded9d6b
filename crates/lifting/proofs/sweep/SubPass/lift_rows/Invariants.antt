use Rattle.lifting.specs.Runs.{Moves, sweep_of}
use Rattle.lifting.proofs.sweep.SubPass.lift_rows.Given as goal

abbrev pub invariant-loop-j : goal.invariant-loop-j
invariant-loop-j g l = Moves (sweep_of g.S.Sample.Sample g.S.Step g.B.BreakSource l.self) l.lattice l.d 0 0 0 l.j l.initial.plane l.plane

use Rattle.breaks.proofs.Fills.{FilledTo}
use Rattle.breaks.proofs.source.BreakSource.fill.Given as goal

abbrev pub invariant-loop-k : goal.invariant-loop-k
invariant-loop-k g l = FilledTo (g.Self.BreakSource.broken l.self) l.run l.flags l.k

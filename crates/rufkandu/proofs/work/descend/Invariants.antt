use Rattle.std.proofs.Common.{◌≡◌}
use Rattle.geometry.specs.Frames.{corners_of}
use Rattle.lifting.specs.Stages.{transform}
use Rattle.plates.specs.Bands.{by_mean}
use Rattle.rufkandu.proofs.work.descend.Given as goal

abbrev pub invariant-loop-stage : goal.invariant-loop-stage
invariant-loop-stage g l = l.plane ≡ transform by_mean (corners_of l.frame) (g.B.BreakSource.broken l.source) l.stage l.initial.plane

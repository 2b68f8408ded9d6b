use Rattle.std.proofs.Common.{◌≡◌, ◌+◌, ◌-◌, ◌≤◌, List, ℤ}
use Rattle.geometry.specs.Frames.{corners_of}
use Rattle.lifting.specs.Stages.{transform, Plane}
use Rattle.plates.specs.Bands.{by_mean}
use Rattle.rufkandu.proofs.work.ascend.Given as goal

abbrev pub invariant-loop-stage : goal.invariant-loop-stage
invariant-loop-stage g l =
    (l.stage ≤ l.stage-end + 1)
    × ((xs : List ℤ) → Plane by_mean (corners_of l.frame) xs →
    l.initial.plane ≡ transform by_mean (corners_of l.frame) (g.B.BreakSource.broken l.source) 0 xs →
    l.plane ≡ transform by_mean (corners_of l.frame) (g.B.BreakSource.broken l.source) (l.stage - 1) xs)

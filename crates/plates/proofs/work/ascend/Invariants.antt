use Rattle.std.proofs.Common.{◌≡◌, List, ℤ}
use Rattle.lifting.specs.Stages.{Plane}
use Rattle.tiles.specs.Views.{bands_tile, with_plane}
use Rattle.plates.specs.Bands.{by_mean, bands_at}
use Rattle.plates.proofs.work.ascend.Given as goal

abbrev pub invariant-loop-stage : goal.invariant-loop-stage
invariant-loop-stage g l =
    (xs : List ℤ) → Plane by_mean (bands_tile l.initial.bands).frame xs →
    with_plane (bands_tile l.initial.bands) l.initial.plane ≡ bands_at (bands_tile l.initial.bands).frame (g.B.BreakSource.broken l.source) xs 0 →
    with_plane (bands_tile l.bands) l.plane ≡ bands_at (bands_tile l.initial.bands).frame (g.B.BreakSource.broken l.source) xs l._stage

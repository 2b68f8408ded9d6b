use Rattle.std.proofs.Common.{◌≡◌, ◌+◌, ◌-◌, ◌≤◌, map, vec_items, vec_capacity}
use Rattle.std.specs.List.{range_with_len}
use Rattle.lifting.specs.Stages.{transform}
use Rattle.tiles.specs.Views.{bands_tile, with_plane}
use Rattle.plates.specs.Bands.{by_mean, ends, bands_at}
use Rattle.plates.proofs.work.descend.Given as goal

abbrev pub invariant-loop-stage : goal.invariant-loop-stage
invariant-loop-stage g l =
    (with_plane (bands_tile l.bands) l.plane ≡ bands_at (bands_tile l.initial.bands).frame (g.B.BreakSource.broken l.source) l.initial.plane l._stage)
    × (vec_items l.ranges
    ≡ map (λ n. ends (transform by_mean (bands_tile l.initial.bands).frame (g.B.BreakSource.broken l.source) (l.levels - n) l.initial.plane)) (range_with_len 0 (l.levels - l._stage + 1)))
    × (l.levels + 1 ≤ vec_capacity l.ranges)

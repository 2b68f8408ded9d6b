use Rattle.std.proofs.Common.{◌≡◌, true, rules}
use Rattle.geometry.specs.Frames.{corners_of, same_frame}
use Rattle.lifting.specs.Stages.{Plane}
use Rattle.tiles.specs.Views.{picture_tile, bands_tile}
use Rattle.plates.specs.Bands.{by_mean}
use Rattle.plates.proofs.Trips.{begun, came_up}
use Rattle.plates.proofs.work.there_and_back.Goals as goal

pub returns-clause-back : goal.returns-clause-back
returns-clause-back g c =
    let k = corners_of c.args.frame.now in
    let home = g.B.BreakSource.framed c.args.source.now in
    let broken = g.B.BreakSource.broken c.args.source.now in
    let xs = c.args.plane.now in
    let same : same_frame k home ≡ true = search rules in
    let b = begun k xs (picture_tile c.in_ok-picture.picture) (bands_tile c.begin-bands.result) c.in_ok-picture.ensures c.begin-bands.ensures in
    let pl : Plane by_mean k xs = record { long = b.0; held = c.all_known.ensures } in
    (came_up k home broken xs (bands_tile c.begin-bands.result) same b.0 b.1 (bands_tile c.descend.new.bands) (bands_tile c.ascend.new.bands)
    c.descend.new.plane c.ascend.new.plane c.levels.result pl c.in_ok-ranges.ensures.1 c.levels.ensures c.ascend.ensures).0

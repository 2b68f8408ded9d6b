use Rattle.std.proofs.Common.{arith}
use Rattle.geometry.specs.Frames.{corners_of}
use Rattle.tiles.specs.Views.{bands_tile, with_plane}
use Rattle.plates.proofs.Trips.{further_up}
use Rattle.plates.proofs.work.ascend.Goals as goal

pub loop-stage-preserved : goal.loop-stage-preserved
loop-stage-preserved g c xs pl e =
    further_up (corners_of c.args.bands.now.frame) (g.B.BreakSource.framed c.args.source.now) (g.B.BreakSource.broken c.args.source.now) c.requires.same xs pl
    c.loop-stage._stage (with_plane (bands_tile c.loop-stage.bands) c.loop-stage.plane) (with_plane (bands_tile c.up.new.self) c.up.new.plane) _
    (omega (arith, c.loop-stage-test.true, c.requires.all)) (c.loop-stage.invariant xs pl e) c.up.ensures

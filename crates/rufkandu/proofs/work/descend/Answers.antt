use Rattle.std.proofs.Common.{sym, ◌∙◌, arith}
use Rattle.geometry.specs.Frames.{corners_of}
use Rattle.rufkandu.proofs.Trips.{further_down, top}
use Rattle.rufkandu.proofs.work.descend.Goals as goal

pub loop-stage-init : goal.loop-stage-init
loop-stage-init g c = sym (top (corners_of c.args.frame.now) (g.B.BreakSource.broken c.args.source.now) c.args.plane.now c.levels-stage.result c.levels-stage.ensures)

pub loop-stage-preserved : goal.loop-stage-preserved
loop-stage-preserved g c =
    further_down (corners_of c.args.frame.now) (g.B.BreakSource.framed c.args.source.now) (g.B.BreakSource.broken c.args.source.now) c.requires.same c.args.plane.now
    c.loop-stage.stage c.loop-stage.plane c.down.new.plane c.loop-stage-test.true (omega (arith, c.loop-stage.auto.stage, c.levels-stage.ensures))
    (c.loop-stage.auto.plane ∙ c.requires.long) c.loop-stage.invariant c.down.ensures.plane

use Rattle.geometry.specs.Frames.{corners_of}
use Rattle.lifting.specs.Meanings.{meant, Lawful}
use Rattle.lifting.specs.Stages.{stage_up}
use Rattle.lifting.proofs.StageLaws.{stage_laws}
use Rattle.lifting.proofs.Works.{kept_up}
use Rattle.lifting.proofs.sweep.stage.up.Goals as goal

pub returns : goal.returns
unfolding stage_up
returns g c =
    let m = meant g.S.Sample.Sample.kind (g.S.Step.rule c.args.step.now) in
    let laws : Lawful m = record { kind = g.met.S.Sample.Sample.lawful; step = g.met.S.Step.lawful c.args.step.now } in
    let k = corners_of c.args.frame.now in
    let home = g.B.BreakSource.framed c.args.source.now in
    let broken = g.B.BreakSource.broken c.args.source.now in
    record {
      answer = c.work.ensures.answer;
      plane = c.work.ensures.plane;
      lossless = kept_up m laws k home broken c.args.stage c.args.plane.now c.work.new.plane c.work.ensures.held c.work.ensures.plane;
      laws = stage_laws m laws k broken;
    }

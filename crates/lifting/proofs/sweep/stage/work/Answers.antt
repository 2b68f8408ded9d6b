use Rattle.std.proofs.Common.{not, eqb, refl}
use denote.Param.{number, value_of}
use Rattle.geometry.specs.Frames.{corners_of}
use Rattle.lifting.specs.Meanings.{meant}
use Rattle.lifting.proofs.Works.{admitted_small, worked}
use Rattle.lifting.proofs.sweep.stage.work.Goals as goal

pub lift_both-requires : goal.lift_both-requires
lift_both-requires g c = admitted_small c.args.frame.now (g.B.BreakSource.framed c.args.source.now) c.args.stage c.in_ok-admitted.ensures c.lattice-l.ensures.is refl

pub lift_both-requires-2 : goal.lift_both-requires-2
lift_both-requires-2 g c = admitted_small c.args.frame.now (g.B.BreakSource.framed c.args.source.now) c.args.stage c.in_ok-admitted.ensures c.lattice-l.ensures.is c.lift_both.auto.plane

pub returns-clause-plane : goal.returns-clause-plane
returns-clause-plane g c =
    worked (meant g.S.Sample.Sample.kind (g.S.Step.rule c.args.step.now)) (corners_of c.args.frame.now) (g.B.BreakSource.broken c.args.source.now) c.args.stage
    (not (eqb (value_of (number g.row.FIRST)) 0)) (not (eqb (value_of (number g.row.SECOND)) 0)) (g.B.BreakSource.framed c.args.source.now) c.args.order
    c.in_ok-admitted.ensures (g.B.BreakSource.outside c.args.source.now) c.lattice-l.ensures.is c.lift_both.ensures c.lift_both-2.ensures

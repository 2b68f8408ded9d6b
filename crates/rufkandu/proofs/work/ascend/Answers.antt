use Rattle.std.proofs.Common.{◌≡◌, ℕ, ◌+◌, ◌-◌, ap, ◌∙◌, arith}
use Rattle.geometry.specs.Frames.{corners_of}
use Rattle.lifting.specs.Stages.{transform}
use Rattle.plates.specs.Bands.{by_mean}
use Rattle.rufkandu.proofs.Trips.{further_up, top}
use Rattle.rufkandu.proofs.work.ascend.Goals as goal

pub loop-stage-preserved : goal.loop-stage-preserved
loop-stage-preserved g c = (
  omega arith,
  λ xs pl e.
      let next : c.loop-stage.stage ≡ c.loop-stage.stage + 1 - 1 = omega arith in
      further_up (corners_of c.args.frame.now) (g.B.BreakSource.framed c.args.source.now) (g.B.BreakSource.broken c.args.source.now) c.requires.same xs
      c.loop-stage.stage c.loop-stage.plane c.up.new.plane pl c.loop-stage.auto.stage (omega (arith, c.loop-stage-test.true, c.levels-stage-end.ensures))
      (c.loop-stage.auto.plane ∙ c.requires.long) (c.loop-stage.invariant.1 xs pl e) c.up.ensures.plane
      ∙ ap (λ (s : ℕ). transform by_mean (corners_of c.args.frame.now) (g.B.BreakSource.broken c.args.source.now) s xs) next,
)

-- there are no stages
pub returns : goal.returns
returns g c xs pl e =
    let none : c.loop-stage.stage - 1 ≡ (corners_of c.args.frame.now).levels = omega (arith, c.loop-stage-test.false, c.loop-stage.invariant.0, c.levels-stage-end.ensures) in
    c.loop-stage.invariant.1 xs pl e ∙ top (corners_of c.args.frame.now) (g.B.BreakSource.broken c.args.source.now) xs (c.loop-stage.stage - 1) none

-- after the last of them
pub returns-2 : goal.returns-2
returns-2 g c xs pl e =
    let last : c.loop-stage.stage ≡ (corners_of c.args.frame.now).levels = omega (arith, c.loop-stage-test.true, c.levels-stage-end.ensures) in
    further_up (corners_of c.args.frame.now) (g.B.BreakSource.framed c.args.source.now) (g.B.BreakSource.broken c.args.source.now) c.requires.same xs
    c.loop-stage.stage c.loop-stage.plane c.up.new.plane pl c.loop-stage.auto.stage (omega (arith, last))
    (c.loop-stage.auto.plane ∙ c.requires.long) (c.loop-stage.invariant.1 xs pl e) c.up.ensures.plane
    ∙ top (corners_of c.args.frame.now) (g.B.BreakSource.broken c.args.source.now) xs c.loop-stage.stage last

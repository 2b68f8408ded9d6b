use Rattle.std.proofs.Common.{refl, ap, ◌∙◌, arith}
use Rattle.breaks.specs.Sources.{is_broken, FlagsOf, point_in}
use Rattle.breaks.proofs.Fills.{filled_more, far_broken, before_some, before_none, flags_of}
use Rattle.breaks.proofs.source.BreakSource.fill.Goals as goal

pub loop-k-preserved : goal.loop-k-preserved
loop-k-preserved g c =
    let broken = g.Self.BreakSource.broken c.args.self.now in
    let run = c.args.run in
    let r = run.resolution in
    let d = run.direction in
    let k = c.loop-k.k in
    let no = ap is_broken c.default-pair.ensures.0 in
    let none = ap is_broken c.default-pair.ensures.1 in
    let fresh : FlagsOf broken run k c.match-point.pair =
    elim c.match-point.branch [
      | goal.in-Some+in-Some-gap_before w ↦
          flags_of broken run k _ _ _ w.in-Some.p w.pair-is w.in-Some.ensures
          (w.gap-pair-in-Some-gap_before.ensures ∙ before_some broken r d w.in-Some.p w.in-Some-gap_before.g w.in-Some-gap_before.ensures)
          (w.gap-pair.ensures ∙ ap broken w.gap_after.ensures)
      | goal.in-Some+in_default-gap_before w ↦
          flags_of broken run k _ _ _ w.in-Some.p w.pair-is w.in-Some.ensures
          (no ∙ before_none broken r d w.in-Some.p w.in_default-gap_before.ensures)
          (w.gap-pair.ensures ∙ ap broken w.gap_after.ensures)
      | goal.in_default w ↦
          let far = far_broken broken (g.Self.BreakSource.framed c.args.self.now) (g.Self.BreakSource.outside c.args.self.now) r d (point_in run k) w.in_default.ensures in
          flags_of broken run k _ _ _ (point_in run k) w.pair-is refl (no ∙ far.0) (none ∙ far.1)
    ] in
    filled_more broken run c.loop-k.flags k c.match-point.pair (omega arith) fresh c.loop-k.invariant

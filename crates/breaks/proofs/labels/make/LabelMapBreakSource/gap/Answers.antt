use Rattle.std.proofs.Common.{sym, ap, ◌∙◌, subst, arith, rules}
use Rattle.geometry.specs.Frames.{corners_of}
use Rattle.geometry.proofs.Points.{Inside, inside_from}
use Rattle.breaks.specs.Labels.{map_of, label}
use Rattle.breaks.proofs.LabelMaps.{ends, broken_outside, broken_alike, broken_unlike}
use Rattle.breaks.proofs.labels.make.LabelMapBreakSource.gap.Goals as goal

pub returns-then-not-is_gap : goal.returns-then-not-is_gap
returns-then-not-is_gap c = broken_outside (map_of c.args.self.now) c.args.g (sym c.if-not-is_gap.ensures)

pub overflow_mul-from : goal.overflow_mul-from
overflow_mul-from c =
    let e = ends (corners_of c.args.self.now.frame) c.args.g c.apart-n.result (sym c.if-not-is_gap.ensures) c.apart-n.ensures.is in
    omega (arith, e.from.right, e.right)

pub overflow_mul-from-2 : goal.overflow_mul-from-2
overflow_mul-from-2 c =
    let e = ends (corners_of c.args.self.now.frame) c.args.g c.apart-n.result (sym c.if-not-is_gap.ensures) c.apart-n.ensures.is in
    omega (arith, e.from.bottom, e.bottom)

pub further_on-to-requires : goal.further_on-to-requires
further_on-to-requires c =
    let e = ends (corners_of c.args.self.now.frame) c.args.g c.apart-n.result (sym c.if-not-is_gap.ensures) c.apart-n.ensures.is in
    record { right = omega (arith, e.to.right, e.right); bottom = omega (arith, e.to.bottom, e.bottom) }

pub label-requires : goal.label-requires
label-requires c =
    let e = ends (corners_of c.args.self.now.frame) c.args.g c.apart-n.result (sym c.if-not-is_gap.ensures) c.apart-n.ensures.is in
    inside_from _ _ e.from

pub label-requires-2 : goal.label-requires-2
label-requires-2 c =
    let e = ends (corners_of c.args.self.now.frame) c.args.g c.apart-n.result (sym c.if-not-is_gap.ensures) c.apart-n.ensures.is in
    let from = inside_from _ _ e.from in
    let to = inside_from _ _ (subst (Inside (corners_of c.args.self.now.frame)) (sym c.further_on-to.ensures) e.to) in
    search (rules, from, to)

pub returns-then-label : goal.returns-then-label
returns-then-label c =
    let m = map_of c.args.self.now in
    broken_alike m c.args.g c.apart-n.result c.apart-n.ensures.is (sym c.if-not-is_gap.ensures)
    (sym c.label.ensures ∙ c.if-label.true ∙ c.label-2.ensures ∙ ap (label m) c.further_on-to.ensures)

pub returns-else-label : goal.returns-else-label
returns-else-label c =
    let m = map_of c.args.self.now in
    broken_unlike m c.args.g c.apart-n.result c.apart-n.ensures.is (sym c.if-not-is_gap.ensures)
    (λ s. c.if-label.false (c.label.ensures ∙ s ∙ sym (c.label-2.ensures ∙ ap (label m) c.further_on-to.ensures)))

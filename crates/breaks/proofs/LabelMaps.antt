-- The finest points that a gap's two points stand for, and what a label map says of a gap. Assumes nothing.
use Rattle.std.proofs.Common.{◌≡◌, ℕ, ◌*◌, ◌≤◌, true, false, not, eqb, sym, ap, ◌∙◌, subst, ap₂, add-mul, arith}
use Rattle.std.proofs.lemmas.Bool.{cond-true, eq-eqb, ne_eqb}
use Rattle.geometry.specs.declared.corners.Corners.{Corners}
use Rattle.geometry.specs.declared.direction.Direction.{Direction}
use Rattle.geometry.specs.declared.direction.Direction.TheVariants.{Row, Column}
use Rattle.geometry.specs.declared.gap.Gap.{Gap}
use Rattle.geometry.specs.declared.point.Point.{Point}
use Rattle.geometry.specs.Frames.{is_gap, apart, next}
use Rattle.geometry.specs.Places.{finest}
use Rattle.geometry.proofs.Bounds.{gap_parts}
use Rattle.geometry.proofs.Points.{Inside, finest_inside}
use Rattle.breaks.specs.Labels.{Labelled, label, further, label_broken, label_outside}

abbrev pub scaled : Point → ℕ → Point
scaled p n = record { x = p.x * n; y = p.y * n }

next_scaled : (d : Direction) (p : Point) (n : ℕ) → scaled (next d p) n ≡ further d (scaled p n) n
next_scaled Row p n = ap (λ (x : ℕ). record { x = x; y = p.y * n }) (omega (arith, add-mul p.x 1 n))
next_scaled Column p n = ap (λ (y : ℕ). record { x = p.x * n; y = y }) (omega (arith, add-mul p.y 1 n))

module _ (c : Corners) (g : Gap) (n : ℕ) (is : n ≡ apart c g.resolution) where
  from_is : finest c g.resolution g.from ≡ scaled g.from n
  from_is = ap (scaled g.from) (sym is)

  to_is : finest c g.resolution (next g.direction g.from) ≡ further g.direction (scaled g.from n) n
  to_is = ap (scaled (next g.direction g.from)) (sym is) ∙ next_scaled g.direction g.from n

  pub from_inside : is_gap c g ≡ true → Inside c (scaled g.from n)
  from_inside e = subst (Inside c) from_is (finest_inside c g.resolution g.from (gap_parts c g e).from)

  pub to_inside : is_gap c g ≡ true → Inside c (further g.direction (scaled g.from n) n)
  to_inside e = subst (Inside c) to_is (finest_inside c g.resolution (next g.direction g.from) (gap_parts c g e).to)

module _ (m : Labelled) (g : Gap) where
  pub broken_outside : is_gap m.frame g ≡ false → true ≡ label_broken m g
  broken_outside e = sym (label_outside m g e)

  module _ (n : ℕ) (is : n ≡ apart m.frame g.resolution) (e : is_gap m.frame g ≡ true) where
    at_gap : label_broken m g ≡ not (eqb (label m (scaled g.from n)) (label m (further g.direction (scaled g.from n) n)))
    unfolding label_broken
    at_gap = cond-true (is_gap m.frame g) _ true e ∙ ap₂ (λ (p q : Point). not (eqb (label m p) (label m q))) (from_is m.frame g n is) (to_is m.frame g n is)

    pub broken_alike : label m (scaled g.from n) ≡ label m (further g.direction (scaled g.from n) n) → false ≡ label_broken m g
    broken_alike s = sym (at_gap ∙ ap not (eq-eqb _ _ s))

    pub broken_unlike : (label m (scaled g.from n) ≡ label m (further g.direction (scaled g.from n) n) → ⊥) → true ≡ label_broken m g
    broken_unlike s = sym (at_gap ∙ ap not (ne_eqb _ _ s))

-- a gap of the frame c, with its points n apart among the finest points
pub record Ends (c : Corners) (g : Gap) (n : ℕ) : Type 0 where
  pub from : Inside c (scaled g.from n)
  pub to : Inside c (further g.direction (scaled g.from n) n)
  pub right : c.x1 ≤ 1073741824
  pub bottom : c.y1 ≤ 1073741824

pub ends : (c : Corners) (g : Gap) (n : ℕ) → is_gap c g ≡ true → n ≡ apart c g.resolution → Ends c g n
ends c g n e is =
    let framed = (gap_parts c g e).framed in
    record { from = from_inside c g n is e; to = to_inside c g n is e; right = framed.right; bottom = framed.bottom }

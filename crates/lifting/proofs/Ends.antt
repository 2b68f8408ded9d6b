-- The ends of a point: never of its own parity, and joined to it by a whole gap. Assumes nothing.
use Rattle.std.proofs.Common.{◌≡◌, ℕ, ◌+◌, ◌-◌, ◌%◌, ◌<◌, Bool, true, false, Some, None, Option, sym, refl, ap, ◌∙◌, arith}
use Rattle.std.proofs.lemmas.Bool.Decides.{nat_tests}
use Rattle.std.proofs.lemmas.Bool.{and_parts, eqb-true, eqb-false, ne_eqb, not-true}
use Rattle.geometry.specs.declared.corners.Corners.{Corners}
use Rattle.geometry.specs.declared.direction.Direction.{Direction}
use Rattle.geometry.specs.declared.direction.Direction.TheVariants.{Row, Column}
use Rattle.geometry.specs.declared.gap.Gap.{Gap}
use Rattle.geometry.specs.declared.point.Point.{Point}
use Rattle.geometry.specs.Frames.{along, next, previous, is_gap}
use Rattle.geometry.specs.Places.{spot, point_of}
use Rattle.geometry.proofs.Bounds.{gap_parts}
use Rattle.geometry.proofs.Points.{IsPoint, point_at_spot, spot_of_place}
use Rattle.breaks.specs.Sources.{gap_from}
use Rattle.lifting.specs.Passes.{Breaks, has_parity, across, end_before, end_after, on_point, from_point, pass}
use Rattle.lifting.proofs.Lifts.{Apart, Within}

pub along_previous : (d : Direction) (p : Point) → along d (previous d p) ≡ along d p - 1
along_previous Row p = refl
along_previous Column p = refl

pub along_next : (d : Direction) (p : Point) → along d (next d p) ≡ along d p + 1
along_next Row p = refl
along_next Column p = refl

pub next_previous : (d : Direction) (p : Point) → 0 < along d p → next d (previous d p) ≡ p
next_previous Row p h = grind arith
next_previous Column p h = grind arith

-- the point of a target
pub on_some : (f : Point → Bool) (o : Option Point) → on_point f o ≡ true → (p : Point) × (o ≡ Some p) × (f p ≡ true)
on_some f None e = absurd (Rattle.std.proofs.lemmas.Bool.false≢true e)
on_some f (Some p) e = (p, refl, e)

-- the point of a place that a pass over the points of one parity changes
pub record TargetPoint (c : Corners) (r : ℕ) (d : Direction) (odd : Bool) (k : ℕ) : Type 0 where
  pub point : Point
  pub at : point_of c r k ≡ Some point
  pub parity : has_parity odd (along d point) ≡ true
  pub is : IsPoint c r point
  pub place : spot c r point ≡ k

pub target_point : (c : Corners) (r : ℕ) (d : Direction) (odd : Bool) (k : ℕ) → on_point (λ p. has_parity odd (along d p)) (point_of c r k) ≡ true → TargetPoint c r d odd k
target_point c r d odd k t =
    let s = on_some (λ p. has_parity odd (along d p)) (point_of c r k) t in
    let w = spot_of_place c r k s.0 s.1 in
    record { point = s.0; at = s.1; parity = s.2; is = w.0; place = w.1 }

other_parity : (odd : Bool) (t u : ℕ) → has_parity odd t ≡ true → (u % 2 ≡ t % 2 → ⊥) → has_parity odd u ≡ false
other_parity odd t u e ne = grind (arith, nat_tests)

module _ (c : Corners) (broken : Breaks) (r : ℕ) (d : Direction) where
  -- an end that is present: a point of the frame, joined by a gap that is not broken
  pub record Joined (g : Gap) (q : Point) (e : ℕ) : Type 0 where
    pub gap : is_gap c g ≡ true
    pub whole : broken g ≡ false
    pub place : spot c g.resolution q ≡ e

  across_some : (g : Gap) (q : Point) (e : ℕ) → across c broken g q ≡ Some e → Joined g q e
  across_some g q e h = record { gap = grind arith; whole = grind arith; place = grind arith }

  before_some : (p : Point) (e : ℕ) → end_before c broken r d p ≡ Some e → (0 < along d p) × Joined (gap_from r d (previous d p)) (previous d p) e
  before_some p e h = (grind (arith, nat_tests), across_some (gap_from r d (previous d p)) (previous d p) e (grind (arith, nat_tests)))

  after_some : (p : Point) (e : ℕ) → end_after c broken r d p ≡ Some e → Joined (gap_from r d p) (next d p) e
  after_some p e h = across_some (gap_from r d p) (next d p) e h

  -- what stands at an end
  at_end : (q : Point) (e : ℕ) → IsPoint c r q → spot c r q ≡ e → point_of c r e ≡ Some q
  at_end q e i h = ap (point_of c r) (sym h) ∙ point_at_spot c r q i

  first_of : (k : ℕ) (p : Point) (e : ℕ) → point_of c r k ≡ Some p → from_point (end_before c broken r d) (point_of c r k) ≡ Some e → (0 < along d p) × Joined (gap_from r d (previous d p)) (previous d p) e
  first_of k p e i h = before_some p e (rw i at h)

  second_of : (k : ℕ) (p : Point) (e : ℕ) → point_of c r k ≡ Some p → from_point (end_after c broken r d) (point_of c r k) ≡ Some e → Joined (gap_from r d p) (next d p) e
  second_of k p e i h = after_some p e (rw i at h)

  pub pass_apart : (odd : Bool) → Apart (pass c broken r d odd)
  pass_apart odd = record {
    firsts = λ k e t h.
        let s = target_point c r d odd k t in
        let j = first_of k s.point e s.at h in
        rw (at_end (previous d s.point) e (gap_parts c (gap_from r d (previous d s.point)) j.1.gap).from j.1.place)
        (other_parity odd (along d s.point) _ s.parity (λ q. omega (arith, j.0, ap (λ (n : ℕ). n % 2) (along_previous d s.point))));
    seconds = λ k e t h.
        let s = target_point c r d odd k t in
        let j = second_of k s.point e s.at h in
        rw (at_end (next d s.point) e (gap_parts c (gap_from r d s.point) j.gap).to j.place)
        (other_parity odd (along d s.point) _ s.parity (λ q. omega (arith, ap (λ (n : ℕ). n % 2) (along_next d s.point))));
  }

  -- a set of places with each point's neighbours across whole gaps
  abbrev pub Spreads : (ℕ → Bool) → Type 0
  Spreads on = (p : Point) → is_gap c (gap_from r d p) ≡ true → broken (gap_from r d p) ≡ false → on (spot c r p) ≡ on (spot c r (next d p))

  pub pass_within : (odd : Bool) (on : ℕ → Bool) → Spreads on → Within on (pass c broken r d odd)
  pass_within odd on spreads = record {
    firsts = λ k e o t h.
        let s = target_point c r d odd k t in
        let j = first_of k s.point e s.at h in
        ap on (sym j.1.place) ∙ spreads (previous d s.point) j.1.gap j.1.whole ∙ ap (λ (q : Point). on (spot c r q)) (next_previous d s.point j.0) ∙ ap on s.place ∙ o;
    seconds = λ k e o t h.
        let s = target_point c r d odd k t in
        let j = second_of k s.point e s.at h in
        ap on (sym j.place) ∙ sym (spreads s.point j.gap j.whole) ∙ ap on s.place ∙ o;
  }

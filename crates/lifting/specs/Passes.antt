-- A sub-pass of a stage: which points it changes, and from which ends. Assumes nothing.
use Rattle.std.specs.Prelude.{ℕ, ◌%◌, Bool, false, cond, not, ◌&&◌, List, map, length, Some, None, Option, ◌==◌, slice_index_or}
use Rattle.std.specs.List.{range_with_len}
use Rattle.geometry.specs.declared.corners.Corners.{Corners}
use Rattle.geometry.specs.declared.direction.Direction.{Direction}
use Rattle.geometry.specs.declared.gap.Gap.{Gap}
use Rattle.geometry.specs.declared.point.Point.{Point}
use Rattle.geometry.specs.Frames.{along, next, previous, is_gap}
use Rattle.geometry.specs.Places.{spot, point_of}
use Rattle.breaks.specs.Sources.{gap_from}

-- a set of broken gaps
abbrev pub Breaks : Type 0
Breaks = Gap → Bool

-- places of a plane that are changed together, each from the samples at its ends; an end may be absent
pub record Pass : Type 0 where
  pub target : ℕ → Bool
  pub first : ℕ → Option ℕ
  pub second : ℕ → Option ℕ

-- the sample at an end, if it is present
abbrev pub end_at : {K : Type 0} → K → List K → Option ℕ → Option K
end_at nothing xs None = None
end_at nothing xs (Some k) = Some (slice_index_or xs k nothing)

-- what a pass makes of the place k of the plane xs: a target takes or joins the amount that its two ends give
unfoldable pub lifted_at : {K : Type 0} → K → (K → K → K) → (Option K → Option K → K) → Pass → List K → ℕ → K
lifted_at nothing op amount p xs k =
    cond (p.target k) (op (slice_index_or xs k nothing) (amount (end_at nothing xs (p.first k)) (end_at nothing xs (p.second k)))) (slice_index_or xs k nothing)

-- a pass changes all its targets at once
unfoldable pub lifted : {K : Type 0} → K → (K → K → K) → (Option K → Option K → K) → Pass → List K → List K
lifted nothing op amount p xs = map (lifted_at nothing op amount p xs) (range_with_len 0 (length xs))

-- whether a coordinate is odd, or even
abbrev pub has_parity : Bool → ℕ → Bool
has_parity odd t = t % 2 == cond odd 1 0

-- the place of a neighbour: present when the gap to it is one of the frame and is not broken
abbrev pub across : Corners → Breaks → Gap → Point → Option ℕ
across c broken g p = cond (is_gap c g && not (broken g)) (Some (spot c g.resolution p)) None

-- the two ends of a point of resolution r on its line in a direction: before it (left or above) and after it
abbrev pub end_before : Corners → Breaks → ℕ → Direction → Point → Option ℕ
end_before c broken r d p = cond (along d p == 0) None (across c broken (gap_from r d (previous d p)) (previous d p))

abbrev pub end_after : Corners → Breaks → ℕ → Direction → Point → Option ℕ
end_after c broken r d p = across c broken (gap_from r d p) (next d p)

-- a property or an end of the point at a place, where there is one
abbrev pub on_point : (Point → Bool) → Option Point → Bool
on_point f None = false
on_point f (Some p) = f p

abbrev pub from_point : (Point → Option ℕ) → Option Point → Option ℕ
from_point f None = None
from_point f (Some p) = f p

-- the pass over the points of resolution r whose coordinate in a direction is odd, or even
abbrev pub pass : Corners → Breaks → ℕ → Direction → Bool → Pass
pass c broken r d odd = record {
  target = λ k. on_point (λ p. has_parity odd (along d p)) (point_of c r k);
  first = λ k. from_point (end_before c broken r d) (point_of c r k);
  second = λ k. from_point (end_after c broken r d) (point_of c r k);
}

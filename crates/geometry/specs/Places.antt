-- Where samples stand in a plane. Everything that rests on the place of a sample rests on plane_length, place and point_at. Assumes nothing.
use Rattle.std.specs.Prelude.{◌≡◌, ℕ, ◌+◌, ◌-◌, ◌*◌, ◌/◌, ◌%◌, ◌<◌, Bool, true, cond, not, ◌&&◌, [], ◌∷◌, Some, None, Option, ◌==◌, nat_le, nat_lt}
use Rattle.geometry.specs.declared.corners.Corners.{Corners}
use Rattle.geometry.specs.declared.direction.Direction.TheVariants.{Row, Column}
use Rattle.geometry.specs.declared.lattice.Lattice.{Lattice}
use Rattle.geometry.specs.declared.point.Point.{Point}
use Rattle.geometry.specs.declared.refusal.Refusal.TheVariants.{Outside}
use Rattle.geometry.specs.Frames.{width, height, apart, low, high, between, is_point}
use Rattle.geometry.specs.Refusals.{Answer, unless}

-- whether a finest point is one of the frame
abbrev pub inside : Corners → Point → Bool
inside c p = between c.x0 p.x c.x1 && between c.y0 p.y c.y1

-- how many samples a plane has
unfoldable pub plane_length : Corners → ℕ
plane_length c = height c * width c

-- where the sample of a finest point is kept: row by row
unfoldable pub place : Corners → Point → ℕ
place c p = (p.y - c.y0) * width c + (p.x - c.x0)

-- the finest point whose sample is kept at a place, if there is one
unfoldable pub point_at : Corners → ℕ → Option Point
point_at c k = cond (nat_lt k (plane_length c)) (Some (record { x = c.x0 + k % width c; y = c.y0 + k / width c })) None

-- the laws of the place of a sample, for a frame's numbers
pub record Places (c : Corners) : Type 0 where
  -- a sample's place is inside the plane
  pub within : (p : Point) → inside c p ≡ true → place c p < plane_length c
  -- the point at the place of a point is that point, so two points have two places
  pub point_of_place : (p : Point) → inside c p ≡ true → point_at c (place c p) ≡ Some p
  -- the place of the point at a place is that place
  pub place_of_point : (k : ℕ) (p : Point) → point_at c k ≡ Some p → (inside c p ≡ true) × (place c p ≡ k)
  -- past the plane there is no point
  pub past : (k : ℕ) → (k < plane_length c → ⊥) → point_at c k ≡ None

-- where the sample of a finest point is kept, or that the point is outside
abbrev pub place_answer : Corners → Point → Answer ℕ
place_answer c p = unless ((Outside, not (inside c p)) ∷ []) (place c p)

-- the finest point that a point of resolution r stands for
abbrev pub finest : Corners → ℕ → Point → Point
finest c r p = record { x = p.x * apart c r; y = p.y * apart c r }

-- where the sample of a point of resolution r is kept
abbrev pub spot : Corners → ℕ → Point → ℕ
spot c r p = place c (finest c r p)

-- the point of resolution r that a finest point stands for, if it does
abbrev pub coarse : Corners → ℕ → Option Point → Option Point
coarse c r None = None
coarse c r (Some p) =
    cond (nat_le r c.levels && (p.x % apart c r == 0 && p.y % apart c r == 0)) (Some (record { x = p.x / apart c r; y = p.y / apart c r })) None

-- the point of resolution r whose sample is kept at a place, if there is one
unfoldable pub point_of : Corners → ℕ → ℕ → Option Point
point_of c r k = coarse c r (point_at c k)

-- the same laws for the points of resolution r
pub record Spots (c : Corners) (r : ℕ) : Type 0 where
  pub within : (p : Point) → is_point c r p ≡ true → spot c r p < plane_length c
  pub point_of_spot : (p : Point) → is_point c r p ≡ true → point_of c r (spot c r p) ≡ Some p
  pub spot_of_point : (k : ℕ) (p : Point) → point_of c r k ≡ Some p → (is_point c r p ≡ true) × (spot c r p ≡ k)

abbrev pub corner : Corners → ℕ → Point
corner c r = record { x = low c r Row; y = low c r Column }

-- the points of a resolution that the frame has, by their first place and the steps between places
abbrev pub lattice_at : Corners → ℕ → Lattice
lattice_at c r = record {
  left = low c r Row;
  top = low c r Column;
  columns = high c r Row - low c r Row;
  rows = high c r Column - low c r Column;
  first = spot c r (corner c r);
  across = apart c r;
  down = apart c r * width c;
}

abbrev pub no_lattice : Lattice
no_lattice = record { left = 0; top = 0; columns = 0; rows = 0; first = 0; across = 0; down = 0 }

-- no points above the frame's levels
abbrev pub lattice_of : Corners → ℕ → Lattice
lattice_of c r = cond (nat_le r c.levels) (lattice_at c r) no_lattice

-- the lattice l gives the place of every point of resolution r
abbrev pub Steps : Corners → ℕ → Lattice → Type 0
Steps c r l = (p : Point) → is_point c r p ≡ true → spot c r p ≡ l.first + (p.y - l.top) * l.down + (p.x - l.left) * l.across

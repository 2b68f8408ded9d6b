-- Frames, resolutions, points and gaps. Assumes nothing.
use Rattle.std.specs.Prelude.{ℕ, ◌+◌, ◌-◌, ◌/◌, ◌^◌, Bool, cond, not, ◌&&◌, ◌||◌, [], ◌∷◌, ◌==◌, nat_le, nat_lt}
use Rattle.geometry.specs.declared.corners.Corners.{Corners}
use Rattle.geometry.specs.declared.direction.Direction.{Direction}
use Rattle.geometry.specs.declared.direction.Direction.TheVariants.{Row, Column}
use Rattle.geometry.specs.declared.frame.Frame.{Frame}
use Rattle.geometry.specs.declared.gap.Gap.{Gap}
use Rattle.geometry.specs.declared.point.Point.{Point}
use Rattle.geometry.specs.declared.refusal.Refusal.TheVariants.{EmptySide, TooLarge, TooManyLevels}
use Rattle.geometry.specs.Refusals.{Answer, unless}

abbrev pub width : Corners → ℕ
width c = c.x1 - c.x0

abbrev pub height : Corners → ℕ
height c = c.y1 - c.y0

-- no coordinate of a frame passes this
abbrev pub limit : ℕ
limit = 1073741824

abbrev pub empty_side : Corners → Bool
empty_side c = nat_le c.x1 c.x0 || nat_le c.y1 c.y0

abbrev pub too_large : Corners → Bool
too_large c = (nat_lt 512 (width c) || nat_lt 512 (height c)) || (nat_lt limit c.x1 || nat_lt limit c.y1)

abbrev pub too_many_levels : Corners → Bool
too_many_levels c = nat_lt 6 c.levels

-- whether these are the numbers of a frame, or which refusal they get
abbrev pub frame_answer : Corners → Answer Corners
frame_answer c = unless ((EmptySide, empty_side c) ∷ (TooLarge, too_large c) ∷ (TooManyLevels, too_many_levels c) ∷ []) c

abbrev pub is_frame : Corners → Bool
is_frame c = not (empty_side c) && (not (too_large c) && not (too_many_levels c))

-- two frames are the same when all their numbers are
abbrev pub same_frame : Corners → Corners → Bool
same_frame c e = c.x0 == e.x0 && (c.y0 == e.y0 && (c.x1 == e.x1 && (c.y1 == e.y1 && c.levels == e.levels)))

-- a / n rounded up
abbrev pub ceil : ℕ → ℕ → ℕ
ceil a n = (a + (n - 1)) / n

-- how far apart neighbouring points of resolution r stand among the finest points: 2 for each level below the finest
unfoldable pub apart : Corners → ℕ → ℕ
apart c r = 2 ^ (c.levels - r)

-- where a frame starts and stops in a direction
abbrev pub start : Corners → Direction → ℕ
start c Row = c.x0
start c Column = c.y0

abbrev pub stop : Corners → Direction → ℕ
stop c Row = c.x1
stop c Column = c.y1

-- the coordinates of resolution r in a direction: from low, below high
unfoldable pub low : Corners → ℕ → Direction → ℕ
low c r d = ceil (start c d) (apart c r)

unfoldable pub high : Corners → ℕ → Direction → ℕ
high c r d = ceil (stop c d) (apart c r)

-- the columns and the rows of resolution r, each with its start and end; none above the frame's levels
abbrev pub resolution_of : Corners → ℕ → (ℕ × ℕ) × (ℕ × ℕ)
resolution_of c r = cond (nat_le r c.levels) ((low c r Row, high c r Row), (low c r Column, high c r Column)) ((0, 0), (0, 0))

-- the coordinate of a point on a line in a direction
abbrev pub along : Direction → Point → ℕ
along Row p = p.x
along Column p = p.y

-- the neighbours of a point in a direction
abbrev pub next : Direction → Point → Point
next Row p = record { x = p.x + 1; y = p.y }
next Column p = record { x = p.x; y = p.y + 1 }

abbrev pub previous : Direction → Point → Point
previous Row p = record { x = p.x - 1; y = p.y }
previous Column p = record { x = p.x; y = p.y - 1 }

abbrev pub between : ℕ → ℕ → ℕ → Bool
between a t b = nat_le a t && nat_lt t b

-- whether resolution r of a frame has a point
abbrev pub is_point : Corners → ℕ → Point → Bool
is_point c r p = nat_le r c.levels && (between (low c r Row) p.x (high c r Row) && between (low c r Column) p.y (high c r Column))

-- whether a frame has a gap: the numbers are a frame's, and both points are of one resolution from 1 on
abbrev pub is_gap : Corners → Gap → Bool
is_gap c g = is_frame c && (nat_le 1 g.resolution && (is_point c g.resolution g.from && is_point c g.resolution (next g.direction g.from)))

abbrev pub corners_of : Frame → Corners
corners_of f = f.corners

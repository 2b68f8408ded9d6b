-- Borders that no unbroken gap crosses. Assumes nothing.
use Rattle.std.specs.Prelude.{◌≡◌, Bool, true, ◌≢◌, List, slice_index_or}
use Rattle.geometry.specs.declared.corners.Corners.{Corners}
use Rattle.geometry.specs.declared.gap.Gap.{Gap}
use Rattle.geometry.specs.declared.point.Point.{Point}
use Rattle.geometry.specs.Frames.{next, is_gap}
use Rattle.geometry.specs.Places.{inside, place, finest}
use Rattle.lifting.specs.Passes.{Breaks}

-- the side of each finest point: one of two
abbrev pub Sides : Type 0
Sides = Point → Bool

-- a border is closed when each gap between points that stand for different sides is broken
abbrev pub Closed : Corners → Breaks → Sides → Type 0
Closed c broken side =
    (g : Gap) → is_gap c g ≡ true → side (finest c g.resolution g.from) ≢ side (finest c g.resolution (next g.direction g.from)) → broken g ≡ true

-- two planes have the same samples on one side
abbrev pub AgreeOn : {K : Type 0} → K → Corners → Sides → Bool → List K → List K → Type 0
AgreeOn nothing c side s xs ys = (p : Point) → inside c p ≡ true → side p ≡ s → slice_index_or xs (place c p) nothing ≡ slice_index_or ys (place c p) nothing

-- What becomes of a tile between the way down and the way up. Assumes nothing.
use Rattle.std.specs.Prelude.{not, List, [], ◌∷◌, length, ℤ, ◌==◌}
use Rattle.geometry.specs.declared.corners.Corners.{Corners}
use Rattle.geometry.specs.declared.refusal.Refusal.TheVariants.{WrongLength, OtherFrame}
use Rattle.geometry.specs.Frames.{same_frame}
use Rattle.geometry.specs.Places.{plane_length}
use Rattle.geometry.specs.Refusals.{Answer, unless}
use Rattle.lifting.specs.Passes.{Breaks}
use Rattle.lifting.specs.Stages.{transform}
use Rattle.plates.specs.declared.range.Range.{Range}
use Rattle.plates.specs.Bands.{by_mean, ends}

-- the range of the bands of a plane, which are what every stage down makes of it;
-- 4 a plane of the wrong length, 11 a source with another frame
abbrev pub bands_answer : Corners → Corners → Breaks → List ℤ → Answer Range
bands_answer c home broken xs =
    unless ((WrongLength, not (length xs == plane_length c)) ∷ (OtherFrame, not (same_frame c home)) ∷ []) (ends (transform by_mean c broken 0 xs))

-- What becomes of a tile between the way down and the way up. Assumes nothing.
use Rattle.std.specs.Prelude.{◌≡◌, ℕ, ◌+◌, ◌-◌, not, List, [], ◌∷◌, map, length, ℤ, pos, Ok, Err, vec_items, fold, Result, ◌==◌, slice_index_or}
use Rattle.std.specs.List.{range_with_len}
use Rattle.std.specs.Int.{int_max, int_min}
use Rattle.geometry.specs.declared.corners.Corners.{Corners}
use Rattle.geometry.specs.declared.refusal.Refusal.TheVariants.{WrongLength, OtherFrame}
use Rattle.geometry.specs.Frames.{same_frame}
use Rattle.geometry.specs.Places.{plane_length}
use Rattle.geometry.specs.Refusals.{Answer, accepted, refused, number, unless}
use Rattle.samples.specs.Means.{means}
use Rattle.samples.specs.Numbers.{numbers}
use Rattle.lifting.specs.Meanings.{Meaning, meant}
use Rattle.lifting.specs.Passes.{Breaks}
use Rattle.lifting.specs.Stages.{transform}
use Rattle.tiles.specs.declared.state.State.TheVariants.{Bands}
use Rattle.tiles.specs.declared.unplayed.Unplayed.{Unplayed}
use Rattle.tiles.specs.declared.unplayed.Unplayed.TheVariants.{Refused, NoMemory}
use Rattle.tiles.specs.Tiles.{Seen}
use Rattle.tiles.specs.Views.{with_plane}
use Rattle.plates.specs.declared.range.Range.{Range}
use Rattle.plates.specs.declared.trip.Trip.{Trip}

-- samples that are numbers, by the mean step
abbrev pub by_mean : Meaning ℤ
by_mean = meant numbers means

-- the least and the greatest of a number and some others
abbrev pub ends_from : ℤ → List ℤ → Range
ends_from x xs = record { least = fold int_min x xs; greatest = fold int_max x xs }

-- the least and the greatest of some numbers; of none, 0
abbrev pub ends : List ℤ → Range
ends xs = ends_from (slice_index_or xs 0 (pos 0)) xs

-- a tile of bands at stage s, whose plane is the transform of a picture to that stage
abbrev pub bands_at : Corners → Breaks → List ℤ → ℕ → Seen ℤ
bands_at c broken xs s = with_plane (record { frame = c; stage = s; state = Bands }) (transform by_mean c broken s xs)

-- the ranges of the transforms of a picture to the stages from the highest down to 0
abbrev pub stage_ranges : Corners → Breaks → List ℤ → List Range
stage_ranges c broken xs = map (λ n. ends (transform by_mean c broken (c.levels - n) xs)) (range_with_len 0 (c.levels + 1))

-- these are what the way down tells; 4 a plane of the wrong length, 11 a source with another frame
abbrev pub ranges_answer : Corners → Corners → Breaks → List ℤ → Answer (List Range)
ranges_answer c home broken xs =
    unless ((WrongLength, not (length xs == plane_length c)) ∷ (OtherFrame, not (same_frame c home)) ∷ []) (stage_ranges c broken xs)

-- what comes of the way down and up; only a call that is not refused may want memory
abbrev pub TripOf : Corners → Corners → Breaks → List ℤ → Result Trip Unplayed → Type 0
TripOf c home broken xs (Ok t) = (ranges_answer c home broken xs ≡ accepted (vec_items t.ranges)) × (t.stage ≡ c.levels)
TripOf c home broken xs (Err (Refused e)) = ranges_answer c home broken xs ≡ refused (number e)
TripOf c home broken xs (Err NoMemory) = ranges_answer c home broken xs ≡ accepted (stage_ranges c broken xs)

-- Label maps. Assumes nothing.
use Rattle.std.specs.Prelude.{◌≡◌, ℕ, ◌+◌, ◌-◌, ◌*◌, Bool, true, false, cond, not, List, [], ◌∷◌, length, ◌==◌, slice_index}
use Rattle.std.proofs.lemmas.Bool.{cond-false}
use Rattle.geometry.specs.declared.corners.Corners.{Corners}
use Rattle.geometry.specs.declared.direction.Direction.{Direction}
use Rattle.geometry.specs.declared.direction.Direction.TheVariants.{Row, Column}
use Rattle.geometry.specs.declared.gap.Gap.{Gap}
use Rattle.geometry.specs.declared.point.Point.{Point}
use Rattle.geometry.specs.declared.refusal.Refusal.TheVariants.{WrongLength}
use Rattle.geometry.specs.Frames.{width, height, next, is_gap}
use Rattle.geometry.specs.Places.{finest}
use Rattle.geometry.specs.Refusals.{Answer, unless}
use Rattle.breaks.specs.declared.labels.LabelMap.{LabelMap}

-- a label map's numbers: the frame's, and its labels
pub record Labelled : Type 0 where
  pub frame : Corners
  pub labels : List ℕ

abbrev pub map_of : LabelMap → Labelled
map_of m = record { frame = m.frame.corners; labels = m.labels.now }

-- a label map has a label for each finest point, row by row
abbrev pub map_length : Corners → ℕ
map_length c = height c * width c

abbrev pub map_answer : Corners → List ℕ → Answer Labelled
map_answer c ls = unless ((WrongLength, not (length ls == map_length c)) ∷ []) (record { frame = c; labels = ls })

-- the label of a finest point
abbrev pub label : Labelled → Point → ℕ
label m p = slice_index m.labels ((p.y - m.frame.y0) * width m.frame + (p.x - m.frame.x0))

-- the point n further on in a direction
abbrev pub further : Direction → Point → ℕ → Point
further Row p n = record { x = p.x + n; y = p.y }
further Column p n = record { x = p.x; y = p.y + n }

-- a gap is broken when its points stand for finest points with different labels; what is no gap of the frame is broken too
unfoldable pub label_broken : Labelled → Gap → Bool
label_broken m g =
    cond (is_gap m.frame g)
    (not (label m (finest m.frame g.resolution g.from) == label m (finest m.frame g.resolution (next g.direction g.from))))
    true

pub label_outside : (m : Labelled) (g : Gap) → is_gap m.frame g ≡ false → label_broken m g ≡ true
unfolding label_broken
label_outside m g e = cond-false (is_gap m.frame g) _ true e

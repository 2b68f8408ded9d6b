-- What every stage keeps, for any kind and step that keep their meaning and any set of broken gaps. Assumes nothing.
use Rattle.std.specs.Prelude.{◌≡◌, ℕ, Bool, List, length, None, slice_index_or}
use Rattle.geometry.specs.declared.corners.Corners.{Corners}
use Rattle.geometry.specs.Places.{plane_length, point_of}
use Rattle.lifting.specs.Borders.{Sides, Closed, AgreeOn}
use Rattle.lifting.specs.Meanings.{Meaning}
use Rattle.lifting.specs.Passes.{Breaks}
use Rattle.lifting.specs.Stages.{Plane, stage_down, stage_up, transform}

module _ {K : Type 0} (m : Meaning K) (c : Corners) (broken : Breaks) where
  abbrev pub UpUndoesDown : Type 0
  UpUndoesDown = (r : ℕ) (xs : List K) → Plane m c xs → stage_up m c broken r (stage_down m c broken r xs) ≡ xs

  abbrev pub DownUndoesUp : Type 0
  DownUndoesUp = (r : ℕ) (xs : List K) → Plane m c xs → stage_down m c broken r (stage_up m c broken r xs) ≡ xs

  -- a stage makes a plane of a plane: every sample is again a value that the type can hold
  abbrev pub PlanesStayPlanes : Type 0
  PlanesStayPlanes = (r : ℕ) (xs : List K) → Plane m c xs → Plane m c (stage_down m c broken r xs) × Plane m c (stage_up m c broken r xs)

  -- every plane is the transform, to each stage, of exactly one picture, and the picture is a plane
  abbrev pub EveryPlaneHasOnePicture : Type 0
  EveryPlaneHasOnePicture =
      (s : ℕ) (xs : List K) → Plane m c xs →
      (p : List K) × Plane m c p × (transform m c broken s p ≡ xs) × ((q : List K) → Plane m c q → transform m c broken s q ≡ xs → q ≡ p)

  -- two planes that agree on one side of a closed border still agree on it after any stage, down or up
  abbrev pub SidesStayApart : Type 0
  SidesStayApart =
      (side : Sides) → Closed c broken side → (s : Bool) (r : ℕ) (xs ys : List K) → length xs ≡ plane_length c → length ys ≡ plane_length c →
      AgreeOn m.kind.nothing c side s xs ys →
      AgreeOn m.kind.nothing c side s (stage_down m c broken r xs) (stage_down m c broken r ys)
      × AgreeOn m.kind.nothing c side s (stage_up m c broken r xs) (stage_up m c broken r ys)

  -- stage r changes no place but those of the points of resolution r
  abbrev pub OnlyItsPoints : Type 0
  OnlyItsPoints =
      (r : ℕ) (xs : List K) (k : ℕ) → point_of c r k ≡ None →
      (slice_index_or (stage_down m c broken r xs) k m.kind.nothing ≡ slice_index_or xs k m.kind.nothing)
      × (slice_index_or (stage_up m c broken r xs) k m.kind.nothing ≡ slice_index_or xs k m.kind.nothing)

  pub record StageLaws : Type 0 where
    pub up_undoes_down : UpUndoesDown
    pub down_undoes_up : DownUndoesUp
    pub planes_stay_planes : PlanesStayPlanes
    pub one_picture : EveryPlaneHasOnePicture
    pub sides_stay_apart : SidesStayApart
    pub only_its_points : OnlyItsPoints

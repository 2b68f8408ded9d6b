-- One stage down and up, the transform to a stage, and the laws of both. Assumes nothing.
use Rattle.std.specs.Prelude.{◌≡◌, ℕ, zero, suc, ◌-◌, Bool, true, false, cond, not, ◌&&◌, List, [], ◌∷◌, length, Option, ◌==◌, nat_le, slice_index_or}
use Rattle.geometry.specs.declared.corners.Corners.{Corners}
use Rattle.geometry.specs.declared.direction.Direction.{Direction}
use Rattle.geometry.specs.declared.direction.Direction.TheVariants.{Row, Column}
use Rattle.geometry.specs.declared.refusal.Refusal.TheVariants.{WrongLength, WrongStage, OtherFrame}
use Rattle.geometry.specs.Frames.{same_frame}
use Rattle.geometry.specs.Places.{plane_length}
use Rattle.geometry.specs.Refusals.{Answer, unless, accepted, refused}
use Rattle.lifting.specs.Meanings.{Meaning}
use Rattle.lifting.specs.Passes.{Breaks, lifted, pass}

module _ {K : Type 0} (m : Meaning K) where
  -- joining or taking, and the forecast or the correction
  abbrev pub op : Bool → K → K → K
  op join = cond join m.kind.joined m.kind.taken

  abbrev pub amount : Bool → Option K → Option K → K
  amount odd = cond odd m.rule.forecast m.rule.correction

  -- odd points work by the forecast, even points by the correction
  abbrev pub sub_pass : Corners → Breaks → ℕ → Direction → Bool → Bool → List K → List K
  sub_pass c broken r d odd join = lifted m.kind.nothing (op join) (amount odd) (pass c broken r d odd)

module _ {K : Type 0} (m : Meaning K) (c : Corners) (broken : Breaks) where
  -- on every line of a direction: the points of one parity take, then those of the other join
  abbrev pub lines_by : Bool → Bool → ℕ → Direction → List K → List K
  lines_by first second r d xs = sub_pass m c broken r d second true (sub_pass m c broken r d first false xs)

  -- down: odd points take the forecast of their ends, then even points join the correction of theirs
  abbrev pub lines_down : ℕ → Direction → List K → List K
  lines_down = lines_by true false

  -- up undoes this: even points take the correction, then odd points join the forecast
  abbrev pub lines_up : ℕ → Direction → List K → List K
  lines_up = lines_by false true

  -- stage r down: each column, then each row of resolution r
  unfoldable pub stage_down : ℕ → List K → List K
  stage_down r xs = lines_down r Row (lines_down r Column xs)

  -- stage r up: each row, then each column
  unfoldable pub stage_up : ℕ → List K → List K
  stage_up r xs = lines_up r Column (lines_up r Row xs)

  -- stages L, L - 1, .., the first n of them
  unfoldable pub stages_down : ℕ → List K → List K
  stages_down zero xs = xs
  stages_down (suc n) xs = stage_down (c.levels - n) (stages_down n xs)

  -- the transform to stage s: the stages L, L - 1, .., s + 1 in turn
  unfoldable pub transform : ℕ → List K → List K
  transform s xs = stages_down (c.levels - s) xs

-- a plane: as long as the frame asks, and every sample is a value that the type can hold
pub record Plane {K : Type 0} (m : Meaning K) (c : Corners) (xs : List K) : Type 0 where
  pub long : length xs ≡ plane_length c
  pub held : (k : ℕ) → m.kind.held (slice_index_or xs k m.kind.nothing) ≡ true

-- what a public stage answers: 4 a plane of the wrong length, 10 no such stage, 11 a source with another frame
abbrev pub stage_answer : Corners → Corners → ℕ → ℕ → Answer (Unit {0})
stage_answer c home r n =
    unless ((WrongLength, not (n == plane_length c)) ∷ (WrongStage, not (nat_le 1 r && nat_le r c.levels)) ∷ (OtherFrame, not (same_frame c home)) ∷ []) tt

-- the plane after a call that answered so
abbrev pub after : {K : Type 0} → Answer (Unit {0}) → List K → List K → List K
after (accepted u) new old = new
after (refused n) new old = old

-- The steps of the way down and of the way up. Assumes nothing.
use Rattle.std.proofs.Common.{◌≡◌, ℕ, ◌-◌, ◌≤◌, Bool, true, cond, not, ◌&&◌, eqb, leb, List, length, ℤ, sym, ap, ◌∙◌, eq-eqb}
use Rattle.std.proofs.lemmas.Bool.{le-leb}
use Rattle.geometry.specs.declared.corners.Corners.{Corners}
use Rattle.geometry.specs.Frames.{same_frame}
use Rattle.geometry.specs.Places.{plane_length}
use Rattle.geometry.specs.Refusals.{Answer, accepted, refused}
use Rattle.samples.specs.NumberLaws.{number_lawful}
use Rattle.samples.specs.MeanLaws.{mean_lawful}
use Rattle.lifting.specs.Meanings.{Lawful}
use Rattle.lifting.specs.Passes.{Breaks}
use Rattle.lifting.specs.Stages.{Plane, stage_down, stage_up, stage_answer, after, transform}
use Rattle.lifting.proofs.StageLaws.{transform_next, transform_top, transform_plane, up_down}
use Rattle.plates.specs.Bands.{by_mean}

pass : {X : Type 0} (w x y z : X) (a b d : Bool) → a ≡ true → b ≡ true → d ≡ true → cond (not a) x (cond (not b) y (cond (not d) z w)) ≡ w
pass w x y z a b d p q r = rw p (rw q (rw r))

both : (a b : Bool) → a ≡ true → b ≡ true → (a && b) ≡ true
both a b p q = rw p q

-- no stage of the frame refuses a plane and a source of the frame
pub admits : (c home : Corners) (r n : ℕ) → n ≡ plane_length c → 1 ≤ r → r ≤ c.levels → same_frame c home ≡ true → stage_answer c home r n ≡ accepted tt
admits c home r n long some fine same =
    pass (accepted tt) (refused 4) (refused 10) (refused 11) (eqb n (plane_length c)) (leb 1 r && leb r c.levels) (same_frame c home)
    (eq-eqb n (plane_length c) long) (both (leb 1 r) (leb r c.levels) (le-leb 1 r some) (le-leb r c.levels fine)) same

lawful : Lawful by_mean
lawful = record { kind = number_lawful; step = mean_lawful }

module _ (c home : Corners) (broken : Breaks) (same : same_frame c home ≡ true) (xs : List ℤ) where
  pub further_down : (r : ℕ) (plane last : List ℤ) → 1 ≤ r → r ≤ c.levels → length plane ≡ plane_length c → plane ≡ transform by_mean c broken r xs →
      last ≡ after (stage_answer c home r (length plane)) (stage_down by_mean c broken r plane) plane →
      last ≡ transform by_mean c broken (r - 1) xs
  further_down r plane last some fine long come e =
      e
      ∙ ap (λ (a : Answer (Unit {0})). after a (stage_down by_mean c broken r plane) plane) (admits c home r (length plane) long some fine same)
      ∙ ap (stage_down by_mean c broken r) come
      ∙ sym (transform_next by_mean c broken r xs some fine)

  pub further_up : (r : ℕ) (plane last : List ℤ) → Plane by_mean c xs → 1 ≤ r → r ≤ c.levels → length plane ≡ plane_length c → plane ≡ transform by_mean c broken (r - 1) xs →
      last ≡ after (stage_answer c home r (length plane)) (stage_up by_mean c broken r plane) plane →
      last ≡ transform by_mean c broken r xs
  further_up r plane last pl some fine long come e =
      e
      ∙ ap (λ (a : Answer (Unit {0})). after a (stage_up by_mean c broken r plane) plane) (admits c home r (length plane) long some fine same)
      ∙ ap (stage_up by_mean c broken r) (come ∙ transform_next by_mean c broken r xs some fine)
      ∙ up_down by_mean lawful c broken r (transform by_mean c broken r xs) (transform_plane by_mean lawful c broken r xs pl)

-- the transform to the highest stage changes nothing
pub top : (c : Corners) (broken : Breaks) (xs : List ℤ) (s : ℕ) → s ≡ c.levels → transform by_mean c broken s xs ≡ xs
top c broken xs s e = ap (λ (t : ℕ). transform by_mean c broken t xs) e ∙ transform_top by_mean c broken xs

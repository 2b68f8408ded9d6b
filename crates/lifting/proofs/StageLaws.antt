-- Stages undo one another, keep planes planes, and do not cross a closed border. Assumes nothing.
use Rattle.std.proofs.Common.{◌≡◌, ℕ, zero, suc, ◌-◌, ◌<◌, ◌≤◌, Bool, true, false, cond, not, List, length, get_or, None, sym, refl, ap, ◌∙◌, subst, arith}
use Rattle.geometry.specs.declared.corners.Corners.{Corners}
use Rattle.geometry.specs.declared.direction.Direction.{Direction}
use Rattle.geometry.specs.declared.direction.Direction.TheVariants.{Row, Column}
use Rattle.geometry.specs.declared.point.Point.{Point}
use Rattle.geometry.specs.Frames.{next}
use Rattle.geometry.specs.Places.{place, point_at, finest, spot, point_of}
use Rattle.geometry.proofs.Bounds.{gap_parts}
use Rattle.geometry.proofs.Points.{IsPoint, places, inside_from, finest_inside}
use Rattle.breaks.specs.Sources.{gap_from}
use Rattle.lifting.specs.Meanings.{Meaning, Lawful}
use Rattle.lifting.specs.Passes.{Breaks, on_point, pass}
use Rattle.lifting.specs.Stages.{Plane, op, amount, sub_pass, lines_down, lines_up, stage_down, stage_up, stages_down, transform}
use Rattle.lifting.specs.Borders.{Sides, Closed, AgreeOn}
use Rattle.lifting.specs.Laws.{UpUndoesDown, DownUndoesUp, EveryPlaneHasOnePicture, SidesStayApart, OnlyItsPoints, StageLaws}
use Rattle.lifting.proofs.Lifts.{length_lifted, lifted_local, lifted_held, lifted_undone, at_other, KeepsHeld}
use Rattle.lifting.proofs.Ends.{pass_apart, pass_within, Spreads, on_some}

module _ {K : Type 0} (m : Meaning K) (laws : Lawful m) (c : Corners) (broken : Breaks) where
  op_held : (join : Bool) (a b : K) → m.kind.held a ≡ true → m.kind.held b ≡ true → m.kind.held (op m join a b) ≡ true
  op_held true = laws.kind.joined_held
  op_held false = laws.kind.taken_held

  op_undone : (join : Bool) (a b : K) → m.kind.held a ≡ true → m.kind.held b ≡ true → op m (not join) (op m join a b) b ≡ a
  op_undone true = laws.kind.take_undoes_join
  op_undone false = laws.kind.join_undoes_take

  amount_keeps : (odd : Bool) → KeepsHeld m.kind.nothing m.kind.held (amount m odd)
  amount_keeps true = laws.step.forecast_held
  amount_keeps false = laws.step.correction_held

  module _ (r : ℕ) (d : Direction) where
    sub_plane : (odd join : Bool) (xs : List K) → Plane m c xs → Plane m c (sub_pass m c broken r d odd join xs)
    sub_plane odd join xs pl = record {
      long = length_lifted m.kind.nothing (op m join) (amount m odd) (pass c broken r d odd) xs ∙ pl.long;
      held = lifted_held m.kind.nothing m.kind.held (op m join) (amount m odd) (pass c broken r d odd) xs (op_held join) (amount_keeps odd) pl.held;
    }

    sub_undone : (odd join : Bool) (xs : List K) → Plane m c xs → sub_pass m c broken r d odd (not join) (sub_pass m c broken r d odd join xs) ≡ xs
    sub_undone odd join xs pl =
        lifted_undone m.kind.nothing m.kind.held (op m join) (op m (not join)) (amount m odd) (pass c broken r d odd) xs (op_undone join) (amount_keeps odd) (pass_apart c broken r d odd) pl.held

    down_plane : (xs : List K) → Plane m c xs → Plane m c (lines_down m c broken r d xs)
    down_plane xs pl = sub_plane false true _ (sub_plane true false xs pl)

    up_plane : (xs : List K) → Plane m c xs → Plane m c (lines_up m c broken r d xs)
    up_plane xs pl = sub_plane true true _ (sub_plane false false xs pl)

    lines_up_down : (xs : List K) → Plane m c xs → lines_up m c broken r d (lines_down m c broken r d xs) ≡ xs
    lines_up_down xs pl =
        ap (sub_pass m c broken r d true true) (sub_undone false true (sub_pass m c broken r d true false xs) (sub_plane true false xs pl)) ∙ sub_undone true false xs pl

    lines_down_up : (xs : List K) → Plane m c xs → lines_down m c broken r d (lines_up m c broken r d xs) ≡ xs
    lines_down_up xs pl =
        ap (sub_pass m c broken r d false true) (sub_undone true true (sub_pass m c broken r d false false xs) (sub_plane false false xs pl)) ∙ sub_undone false false xs pl

  pub stage_down_plane : (r : ℕ) (xs : List K) → Plane m c xs → Plane m c (stage_down m c broken r xs)
  unfolding stage_down
  stage_down_plane r xs pl = down_plane r Row _ (down_plane r Column xs pl)

  pub stage_up_plane : (r : ℕ) (xs : List K) → Plane m c xs → Plane m c (stage_up m c broken r xs)
  unfolding stage_up
  stage_up_plane r xs pl = up_plane r Column _ (up_plane r Row xs pl)

  pub up_down : UpUndoesDown m c broken
  unfolding stage_down stage_up
  up_down r xs pl = ap (lines_up m c broken r Column) (lines_up_down r Row _ (down_plane r Column xs pl)) ∙ lines_up_down r Column xs pl

  pub down_up : DownUndoesUp m c broken
  unfolding stage_down stage_up
  down_up r xs pl = ap (lines_down m c broken r Row) (lines_down_up r Column _ (up_plane r Row xs pl)) ∙ lines_down_up r Row xs pl

  stages_plane : (n : ℕ) (xs : List K) → Plane m c xs → Plane m c (stages_down m c broken n xs)
  unfolding stages_down
  stages_plane zero xs pl = pl
  stages_plane (suc n) xs pl = stage_down_plane _ _ (stages_plane n xs pl)

  pub transform_plane : (s : ℕ) (xs : List K) → Plane m c xs → Plane m c (transform m c broken s xs)
  unfolding transform
  transform_plane s xs pl = stages_plane _ xs pl

  stages_onto : (n : ℕ) (xs : List K) → Plane m c xs → (p : List K) × Plane m c p × (stages_down m c broken n p ≡ xs)
  unfolding stages_down
  stages_onto zero xs pl = (xs, pl, refl)
  stages_onto (suc n) xs pl =
      let rest = stages_onto n (stage_up m c broken (c.levels - n) xs) (stage_up_plane _ xs pl) in
      (rest.0, rest.1, ap (stage_down m c broken (c.levels - n)) rest.2 ∙ down_up _ xs pl)

  stages_one : (n : ℕ) (xs ys : List K) → Plane m c xs → Plane m c ys → stages_down m c broken n xs ≡ stages_down m c broken n ys → xs ≡ ys
  unfolding stages_down
  stages_one zero xs ys px py e = e
  stages_one (suc n) xs ys px py e =
      let r = c.levels - n in
      stages_one n xs ys px py (sym (up_down r _ (stages_plane n xs px)) ∙ ap (stage_up m c broken r) e ∙ up_down r _ (stages_plane n ys py))

  pub one_picture : EveryPlaneHasOnePicture m c broken
  unfolding transform
  one_picture s xs pl =
      let found = stages_onto (c.levels - s) xs pl in
      (found.0, found.1, found.2, λ q pq e. stages_one (c.levels - s) q found.0 pq found.1 (e ∙ sym found.2))

module _ {K : Type 0} (m : Meaning K) (c : Corners) (broken : Breaks) where
  -- the transform to stage L is the picture, and to one stage less it is one stage more
  pub transform_top : (xs : List K) → transform m c broken c.levels xs ≡ xs
  unfolding transform stages_down
  transform_top xs = ap (λ (n : ℕ). stages_down m c broken n xs) (let e : c.levels - c.levels ≡ 0 = omega arith in e)

  pub transform_next : (s : ℕ) (xs : List K) → 0 < s → s ≤ c.levels → transform m c broken (s - 1) xs ≡ stage_down m c broken s (transform m c broken s xs)
  unfolding transform stages_down
  transform_next s xs low high =
      let e : c.levels - (s - 1) ≡ suc (c.levels - s) = omega arith in
      let g : c.levels - (c.levels - s) ≡ s = omega arith in
      ap (λ (n : ℕ). stages_down m c broken n xs) e ∙ ap (λ (r : ℕ). stage_down m c broken r (stages_down m c broken (c.levels - s) xs)) g

  -- places outside a resolution stay
  off_point : (r : ℕ) (d : Direction) (odd join : Bool) (xs : List K) (k : ℕ) → point_of c r k ≡ None → get_or (sub_pass m c broken r d odd join xs) k m.kind.nothing ≡ get_or xs k m.kind.nothing
  off_point r d odd join xs k e = at_other m.kind.nothing (op m join) (amount m odd) (pass c broken r d odd) xs k (ap (on_point _) e)

  pub only_points : OnlyItsPoints m c broken
  unfolding stage_down stage_up
  only_points r xs k e = (
    off_point r Row false true _ k e ∙ off_point r Row true false _ k e ∙ off_point r Column false true _ k e ∙ off_point r Column true false xs k e,
    off_point r Column true true _ k e ∙ off_point r Column false false _ k e ∙ off_point r Row true true _ k e ∙ off_point r Row false false xs k e,
  )

  sub_length : (r : ℕ) (d : Direction) (odd join : Bool) (xs : List K) → length (sub_pass m c broken r d odd join xs) ≡ length xs
  sub_length r d odd join xs = length_lifted m.kind.nothing (op m join) (amount m odd) (pass c broken r d odd) xs

  pub length_down : (r : ℕ) (xs : List K) → length (stage_down m c broken r xs) ≡ length xs
  unfolding stage_down
  length_down r xs = sub_length r Row false true _ ∙ sub_length r Row true false _ ∙ sub_length r Column false true _ ∙ sub_length r Column true false xs

  pub length_up : (r : ℕ) (xs : List K) → length (stage_up m c broken r xs) ≡ length xs
  unfolding stage_up
  length_up r xs = sub_length r Column true true _ ∙ sub_length r Column false false _ ∙ sub_length r Row true true _ ∙ sub_length r Row false false xs

  -- planes of one length that agree on a set of places
  pub record Alike (on : ℕ → Bool) (xs ys : List K) : Type 0 where
    pub long : length xs ≡ length ys
    pub same : (k : ℕ) → on k ≡ true → get_or xs k m.kind.nothing ≡ get_or ys k m.kind.nothing

  module _ (on : ℕ → Bool) (r : ℕ) (spreads : (d : Direction) → Spreads c broken r d on) where
    sub_alike : (d : Direction) (odd join : Bool) (xs ys : List K) → Alike on xs ys → Alike on (sub_pass m c broken r d odd join xs) (sub_pass m c broken r d odd join ys)
    sub_alike d odd join xs ys a = record {
      long = sub_length r d odd join xs ∙ a.long ∙ sym (sub_length r d odd join ys);
      same = lifted_local m.kind.nothing (op m join) (amount m odd) (pass c broken r d odd) on xs ys a.long (pass_within c broken r d odd on (spreads d)) a.same;
    }

    pub down_alike : (xs ys : List K) → Alike on xs ys → Alike on (stage_down m c broken r xs) (stage_down m c broken r ys)
    unfolding stage_down
    down_alike xs ys a = sub_alike Row false true _ _ (sub_alike Row true false _ _ (sub_alike Column false true _ _ (sub_alike Column true false xs ys a)))

    pub up_alike : (xs ys : List K) → Alike on xs ys → Alike on (stage_up m c broken r xs) (stage_up m c broken r ys)
    unfolding stage_up
    up_alike xs ys a = sub_alike Column true true _ _ (sub_alike Column false false _ _ (sub_alike Row true true _ _ (sub_alike Row false false xs ys a)))

-- whether two sides are the same
abbrev pub same_side : Bool → Bool → Bool
same_side a b = cond a b (not b)

pub same_is : (a b : Bool) → same_side a b ≡ true → a ≡ b
same_is a b e = grind arith

pub is_same : (a b : Bool) → a ≡ b → same_side a b ≡ true
is_same a b e = grind arith

module _ (c : Corners) (side : Sides) (s : Bool) where
  -- the places on a side
  abbrev pub on_side : ℕ → Bool
  on_side k = on_point (λ q. same_side (side q) s) (point_at c k)

  at_spot : (r : ℕ) (p : Point) → IsPoint c r p → on_side (spot c r p) ≡ same_side (side (finest c r p)) s
  at_spot r p i = ap (on_point (λ q. same_side (side q) s)) ((places c).point_of_place (finest c r p) (inside_from c (finest c r p) (finest_inside c r p i)))

  pub side_spreads : (broken : Breaks) → Closed c broken side → (r : ℕ) (d : Direction) → Spreads c broken r d on_side
  side_spreads broken closed r d p gap whole =
      let i = gap_parts c (gap_from r d p) gap in
      let cut = closed (gap_from r d p) gap in
      let same : side (finest c r p) ≡ side (finest c r (next d p)) = grind arith in
      at_spot r p i.from ∙ ap (λ (b : Bool). same_side b s) same ∙ sym (at_spot r (next d p) i.to)

  module _ {K : Type 0} (m : Meaning K) where
    pub alike_from : (xs ys : List K) → length xs ≡ length ys → AgreeOn m.kind.nothing c side s xs ys → (broken : Breaks) → Alike m c broken on_side xs ys
    alike_from xs ys long agree broken = record {
      long = long;
      same = λ k o.
          let t = on_some (λ q. same_side (side q) s) (point_at c k) o in
          let f = (places c).place_of_point k t.0 t.1 in
          subst (λ (j : ℕ). get_or xs j m.kind.nothing ≡ get_or ys j m.kind.nothing) f.1 (agree t.0 f.0 (same_is (side t.0) s t.2));
    }

    pub alike_to : (xs ys : List K) (broken : Breaks) → Alike m c broken on_side xs ys → AgreeOn m.kind.nothing c side s xs ys
    alike_to xs ys broken a p inner on =
        a.same (place c p) (ap (on_point (λ q. same_side (side q) s)) ((places c).point_of_place p inner) ∙ is_same (side p) s on)

pub sides_apart : {K : Type 0} (m : Meaning K) (c : Corners) (broken : Breaks) → SidesStayApart m c broken
sides_apart m c broken side closed s r xs ys lx ly agree =
    let spreads = side_spreads c side s broken closed r in
    let a = alike_from c side s m xs ys (lx ∙ sym ly) agree broken in
    (alike_to c side s m _ _ broken (down_alike m c broken (on_side c side s) r spreads xs ys a), alike_to c side s m _ _ broken (up_alike m c broken (on_side c side s) r spreads xs ys a))

pub stage_laws : {K : Type 0} (m : Meaning K) → Lawful m → (c : Corners) (broken : Breaks) → StageLaws m c broken
stage_laws m laws c broken = record {
  up_undoes_down = up_down m laws c broken;
  down_undoes_up = down_up m laws c broken;
  planes_stay_planes = λ r xs pl. (stage_down_plane m laws c broken r xs pl, stage_up_plane m laws c broken r xs pl);
  one_picture = one_picture m laws c broken;
  sides_stay_apart = sides_apart m c broken;
  only_its_points = only_points m c broken;
}

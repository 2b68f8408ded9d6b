-- The steps of the way down and of the way up. Assumes nothing.
use Rattle.std.proofs.Common.{◌≡◌, ℕ, ◌+◌, ◌-◌, ◌<◌, ◌≤◌, Bool, true, false, cond, not, eqb, List, [], ◌∷◌, ◌++◌, map, length, ℤ, sym, ap, ◌∙◌, subst, ap₂, arith, eq-eqb}
use Rattle.std.specs.List.{range_with_len}
use Rattle.std.proofs.lemmas.List.FromFn.{map-range_with_len_more}
use Rattle.std.proofs.lemmas.Bool.{ne_eqb}
use Rattle.geometry.specs.declared.corners.Corners.{Corners}
use Rattle.geometry.specs.Frames.{same_frame}
use Rattle.geometry.specs.Places.{plane_length}
use Rattle.geometry.specs.Refusals.{Answer, accepted, refused}
use Rattle.samples.specs.NumberLaws.{number_lawful}
use Rattle.samples.specs.MeanLaws.{mean_lawful}
use Rattle.lifting.specs.Meanings.{Lawful}
use Rattle.lifting.specs.Passes.{Breaks}
use Rattle.lifting.specs.Stages.{Plane, stage_down, stage_up, transform}
use Rattle.lifting.proofs.StageLaws.{transform_next, transform_top, transform_plane, up_down}
use Rattle.tiles.specs.declared.state.State.TheVariants.{Picture, Bands}
use Rattle.tiles.specs.Tiles.{Tile, Seen, Begins, Moves, Descends, Ascends, either, open_answer}
use Rattle.tiles.specs.Views.{with_plane}
use Rattle.tiles.proofs.Sessions.{opened_long}
use Rattle.plates.specs.declared.range.Range.{Range}
use Rattle.plates.specs.Bands.{by_mean, bands_at}

pass : {X : Type 0} (w x y z : X) (a b d : Bool) → a ≡ true → b ≡ false → d ≡ true → cond (not a) x (cond b y (cond (not d) z w)) ≡ w
pass w x y z a b d p q r = rw p (rw q (rw r))

lawful : Lawful by_mean
lawful = record { kind = number_lawful; step = mean_lawful }

-- c: the tile's frame; home: the source's; xs: the picture
module _ (c home : Corners) (broken : Breaks) (same : same_frame c home ≡ true) (xs : List ℤ) (pl : Plane by_mean c xs) where
  -- no move from a stage of the frame to another is refused
  moved : (s r : ℕ) (last : Bool) (new : List ℤ) (a : Answer (Unit {0})) (u : Seen ℤ) → last ≡ false →
      Moves home (bands_at c broken xs s) last r new a u → u ≡ with_plane (record { frame = c; stage = r; state = Bands }) new
  moved s r last new a u more m =
      m.2
      ∙ ap (λ (b : Answer (Unit {0})). either b (with_plane (record { frame = c; stage = r; state = Bands }) new) (bands_at c broken xs s))
      (m.1 ∙ pass (accepted tt) (refused 4) (refused 10) (refused 11) (eqb (length (transform by_mean c broken s xs)) (plane_length c)) last (same_frame c home)
      (eq-eqb _ (plane_length c) (transform_plane by_mean lawful c broken s xs pl).long) more same)

  pub further_down : (s r : ℕ) (t u : Seen ℤ) (a : Answer (Unit {0})) → r + 1 ≡ s → s ≤ c.levels → t ≡ bands_at c broken xs s →
      Descends by_mean home broken t a u → u ≡ bands_at c broken xs r
  further_down s r t u a next within come d =
      let less : s - 1 ≡ r = omega arith in
      let some : s ≡ 0 → ⊥ = λ e. omega arith in
      moved s (s - 1) (eqb s 0) (stage_down by_mean c broken s (transform by_mean c broken s xs)) a u (ne_eqb s 0 some) (subst (λ (v : Seen ℤ). Descends by_mean home broken v a u) come d)
      ∙ ap (with_plane (record { frame = c; stage = s - 1; state = Bands })) (sym (transform_next by_mean c broken s xs (omega arith) within))
      ∙ ap (bands_at c broken xs) less

  pub further_up : (s : ℕ) (t u : Seen ℤ) (a : Answer (Unit {0})) → s < c.levels → t ≡ bands_at c broken xs s → Ascends by_mean home broken t a u → u ≡ bands_at c broken xs (s + 1)
  further_up s t u a more come d =
      let r = s + 1 in
      let less : s ≡ r - 1 = omega arith in
      let below : s ≡ c.levels → ⊥ = λ e. omega arith in
      moved s r (eqb s c.levels) (stage_up by_mean c broken r (transform by_mean c broken s xs)) a u (ne_eqb s c.levels below) (subst (λ (v : Seen ℤ). Ascends by_mean home broken v a u) come d)
      ∙ ap (λ (ys : List ℤ). with_plane (record { frame = c; stage = r; state = Bands }) (stage_up by_mean c broken r ys))
      (ap (λ (n : ℕ). transform by_mean c broken n xs) less ∙ transform_next by_mean c broken r xs (omega arith) (omega arith))
      ∙ ap (with_plane (record { frame = c; stage = r; state = Bands })) (up_down by_mean lawful c broken r (transform by_mean c broken r xs) (transform_plane by_mean lawful c broken r xs pl))

-- at the highest stage the plane is the picture
pub at_top : (c : Corners) (broken : Breaks) (xs : List ℤ) (s r : ℕ) → s ≡ r → r ≡ c.levels → with_plane (record { frame = c; stage = s; state = Bands }) xs ≡ bands_at c broken xs r
at_top c broken xs s r e all = λ i. with_plane (record { frame = c; stage = e i; state = Bands }) (sym (ap (λ (t : ℕ). transform by_mean c broken t xs) all ∙ transform_top by_mean c broken xs) i)

-- one range more
pub more_ranges : (f : ℕ → Range) (n : ℕ) (before now : List Range) (x : Range) (ok : Bool) → before ≡ map f (range_with_len 0 n) → x ≡ f n →
    now ≡ cond ok (before ++ x ∷ []) before → ok ≡ true → now ≡ map f (range_with_len 0 (n + 1))
more_ranges f n before now x ok come is grown done =
    grown ∙ ap (λ (b : Bool). cond b (before ++ x ∷ []) before) done ∙ ap₂ (λ (rs : List Range) (r : Range). rs ++ r ∷ []) come is
    ∙ sym (map-range_with_len_more f 0 n n (let e : 0 + n ≡ n = omega arith in e))

-- the tile that begin makes of a picture that was opened
pub begun : (c : Corners) (xs : List ℤ) (p b : Tile) → accepted (with_plane p xs) ≡ open_answer c Picture xs → Begins p (accepted tt) b →
    (length xs ≡ plane_length c) × (b ≡ record { frame = c; stage = c.levels; state = Bands })
begun c xs p b e begins =
    let o = opened_long c Picture xs (with_plane p xs) e in
    (o.0, begins.2 ∙ ap (λ (t : Seen ℤ). let u : Tile = record { frame = t.tile.frame; stage = t.tile.frame.levels; state = Bands } in u) o.1)

module _ (c home : Corners) (broken : Breaks) (xs : List ℤ) (b : Tile) (same : same_frame c home ≡ true) (long : length xs ≡ plane_length c)
    (starts : b ≡ record { frame = c; stage = c.levels; state = Bands }) where
  home_frame : b.frame ≡ c
  home_frame = ap (λ (t : Tile). t.frame) starts

  -- the way up from where the way down ended
  pub came_up : (d u : Tile) (ys zs : List ℤ) (levels : ℕ) → Plane by_mean c xs → with_plane d ys ≡ bands_at b.frame broken xs 0 → levels ≡ c.levels →
      ((ps : List ℤ) → Plane by_mean d.frame ps → with_plane d ys ≡ bands_at d.frame broken ps 0 → with_plane u zs ≡ bands_at d.frame broken ps levels) →
      (zs ≡ xs) × (u.stage ≡ c.levels)
  came_up d u ys zs levels pl down all up =
      let at : with_plane d ys ≡ bands_at c broken xs 0 = down ∙ ap (λ (k : Corners). bands_at k broken xs 0) home_frame in
      let of : d.frame ≡ c = ap (λ (t : Seen ℤ). t.tile.frame) at in
      let there : with_plane u zs ≡ bands_at d.frame broken xs levels =
      up xs (subst (λ (k : Corners). Plane by_mean k xs) (sym of) pl) (at ∙ ap (λ (k : Corners). bands_at k broken xs 0) (sym of)) in (
        ap (λ (t : Seen ℤ). t.plane) there ∙ ap (λ (k : Corners). transform by_mean k broken levels xs) of ∙ ap (λ (s : ℕ). transform by_mean c broken s xs) all
            ∙ transform_top by_mean c broken xs,
        ap (λ (t : Seen ℤ). t.tile.stage) there ∙ all,
      )

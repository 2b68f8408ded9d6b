-- Two tiles that are alike on one side of a closed border stay alike there. Assumes nothing.
use Rattle.std.proofs.Common.{◌≡◌, ℕ, ◌+◌, ◌<◌, Bool, true, false, cond, not, eqb, List, [], ◌∷◌, length, get_or, set, Some, Option, sym, refl, ap, ◌∙◌, subst, subst₂, inl, inr, length-set, get_or-set_other, get_or-set_same}
use Rattle.std.proofs.lemmas.Bool.{cases_eq, cases_Bool, both_ways, eqb-true, not-false}
use Rattle.geometry.specs.declared.corners.Corners.{Corners}
use Rattle.geometry.specs.declared.point.Point.{Point}
use Rattle.geometry.specs.Places.{inside, place, plane_length}
use Rattle.geometry.specs.Refusals.{Answer, accepted, refused}
use Rattle.geometry.proofs.Points.{places}
use Rattle.lifting.specs.Borders.{Sides, Closed}
use Rattle.lifting.specs.Meanings.{Meaning}
use Rattle.lifting.specs.Passes.{Breaks, on_point}
use Rattle.lifting.proofs.StageLaws.{Alike, down_alike, up_alike, on_side, side_spreads, alike_from, alike_to, same_side, same_is, is_same}
use Rattle.tiles.specs.declared.call.Call.{Call}
use Rattle.tiles.specs.declared.call.Call.TheVariants.{Put, Read, Begin, Down, Up, Finish}
use Rattle.tiles.specs.declared.state.State.{State}
use Rattle.tiles.specs.Law.{RunsStayApart}
use Rattle.tiles.specs.Runs.{Run, AlikeCall, AlikeCalls, AlikeAnswer, AlikeSeen, AlikeRuns}
use Rattle.tiles.specs.Tiles.{Seen, Moment, either, point_answer, move_answer, sample_answer, plain, sampled, opened, Called}
use Rattle.tiles.proofs.Outcomes.{passes, outcome, comes_to}

module _ {K : Type 0} (m : Meaning K) (c home : Corners) (broken : Breaks) (side : Sides) (closed : Closed c broken side) (s : Bool) where
  abbrev Near : List K → List K → Type 0
  Near = Alike m c broken (on_side c side s)

  -- two tiles of the frame that are alike on the side
  record Twins (t u : Seen K) : Type 0 where
    tiles : t.tile ≡ u.tile
    frame : t.tile.frame ≡ c
    near : Near t.plane u.plane

  -- the tile of the frame at a stage and in a state, over a plane
  abbrev at : ℕ → State → List K → Seen K
  at r b xs = record { tile = record { frame = c; stage = r; state = b }; plane = xs }

  twins : (r : ℕ) (b : State) (xs ys : List K) → Near xs ys → Twins (at r b xs) (at r b ys)
  twins r b xs ys near = record { tiles = refl; frame = refl; near = near }

  near_set : (xs ys : List K) → Near xs ys → (p : Point) → inside c p ≡ true → (v w : K) → (side p ≡ s → v ≡ w) → length xs ≡ plane_length c → Near (set xs (place c p) v) (set ys (place c p) w)
  near_set xs ys near p i v w same long =
      let k = place c p in
      let lt : k < plane_length c = (places c).within p i in
      let z = m.kind.nothing in
      record {
        long = length-set xs k v ∙ near.long ∙ sym (length-set ys k w);
        same = λ j on. elim (cases_eq j k) [
          | inr ne ↦ get_or-set_other xs k j v z ne ∙ near.same j on ∙ sym (get_or-set_other ys k j w z ne)
          | inl e ↦
              let here : side p ≡ s =
              same_is (side p) s (sym (ap (on_point (λ q. same_side (side q) s)) ((places c).point_of_place p i)) ∙ ap (on_side c side s) (sym e) ∙ on) in
              subst (λ (n : ℕ). get_or (set xs k v) n z ≡ get_or (set ys k w) n z) (sym e)
              (get_or-set_same xs k v z (rw long lt) ∙ same here ∙ sym (get_or-set_same ys k w z (rw (sym near.long ∙ long) lt)))
        ];
      }

  abbrev Out : Call K → Moment K → Moment K → Type 0
  Out call n o = AlikeAnswer side s call n.answer o.answer × Twins n.seen o.seen

  abbrev come : Seen K → Call K → Moment K
  come = outcome m home broken

  -- tiles at a stage and in a state, over two planes that are near
  module _ (r : ℕ) (b : State) (xs ys : List K) (near : Near xs ys) where
    abbrev left : Seen K
    left = at r b xs

    abbrev right : Seen K
    right = at r b ys

    -- by a verdict of the planes' length
    chosen : (verdict : ℕ → Answer (Unit {0})) (t u : Seen K) → (verdict (length xs) ≡ accepted tt → Twins t u) →
        (plain {K = K} (verdict (length xs)) ≡ plain (verdict (length ys))) × Twins (either (verdict (length xs)) t left) (either (verdict (length ys)) u right)
    chosen verdict t u h = subst (λ (n : ℕ). (plain {K = K} (verdict (length xs)) ≡ plain (verdict n)) × Twins (either (verdict (length xs)) t left) (either (verdict n) u right)) near.long (refl, here (verdict (length xs)) h)
      where
        here : (a : Answer (Unit {0})) → (a ≡ accepted tt → Twins t u) → Twins (either a t left) (either a u right)
        here (accepted x) h = h refl
        here (refused n) h = twins r b xs ys near

    -- a sample that is read on the side is the same
    reads : (p : Point) → AlikeAnswer side s (Read p) (sampled (sample_answer m.kind.nothing c xs p)) (sampled (sample_answer m.kind.nothing c ys p))
    reads p = subst (λ (n : ℕ). AlikeAnswer side s (Read p) (sampled (sample_answer m.kind.nothing c xs p)) (sampled (point_answer c n p (get_or ys (place c p) m.kind.nothing)))) near.long
        (here (not (eqb (length xs) (plane_length c))) (inside c p) (alike_to c side s m xs ys broken near p))
      where
        here : (a i : Bool) {v w : K} → (i ≡ true → side p ≡ s → v ≡ w) →
            AlikeAnswer side s (Read p) (sampled (cond a (refused 4) (cond (not i) (refused 9) (accepted v)))) (sampled (cond a (refused 4) (cond (not i) (refused 9) (accepted w))))
        here true i h = inl refl
        here false false h = inl refl
        here false true h = elim (cases_Bool (same_side (side p) s)) [
          | inl on ↦ inl (ap (λ (v : K). let r : Answer (Option K) = accepted (Some v) in r) (h refl (same_is (side p) s on)))
          | inr off ↦ inr ((λ e. both_ways (same_side (side p) s) off (is_same (side p) s e)), (_, refl), (_, refl))
        ]

    -- what is alike of the call e is alike of d, which is that call
    along : (call d e : Call K) → d ≡ e → Out call (come left call) (come right e) → Out call (come left call) (come right d)
    along call d e is = subst (λ (x : Call K). Out call (come left call) (come right x)) (sym is)

    both : (call d : Call K) → AlikeCall side s call d → Out call (come left call) (come right d)
    unfolding outcome
    both (Put p v) d (w, e, same) = along (Put p v) _ _ e (chosen (λ n. point_answer c n p tt) _ _ (λ ok.
        let long = passes _ _ _ _ ok in
        twins _ _ _ _ (near_set xs ys near p (not-false _ (passes _ _ _ _ long.1).0) v w same (eqb-true _ _ (not-false _ long.0)))))
    both (Read p) d e = along (Read p) _ _ e (reads p, twins r b xs ys near)
    both Begin d e = along Begin _ _ e (refl, twins _ _ _ _ near)
    both Down d e = along Down _ _ e (chosen (λ n. move_answer c home n (eqb r 0)) _ _ (λ ok.
        twins _ _ _ _ (down_alike m c broken (on_side c side s) r (side_spreads c side s broken closed r) xs ys near)))
    both Up d e = along Up _ _ e (chosen (λ n. move_answer c home n (eqb r c.levels)) _ _ (λ ok.
        twins _ _ _ _ (up_alike m c broken (on_side c side s) (r + 1) (side_spreads c side s broken closed (r + 1)) xs ys near)))
    both Finish d e = along Finish _ _ e (chosen (λ n. cond (not (eqb r c.levels)) (refused 10) (accepted tt)) _ _ (λ ok. twins _ _ _ _ near))

  -- one call on each tile
  one_call : (t u : Seen K) → Twins t u → (call d : Call K) → AlikeCall side s call d → (n o : Moment K) → Called m home broken t call n → Called m home broken u d o → Out call n o
  one_call t u w call d alike n o cn co =
      let r = t.tile.stage in
      let b = t.tile.state in
      let et : t ≡ left r b t.plane u.plane w.near = λ i. record { tile = record { frame = w.frame i; stage = r; state = b }; plane = t.plane } in
      let eu : u ≡ right r b t.plane u.plane w.near = λ i. record { tile = (sym w.tiles ∙ ap (λ (x : Seen K). x.tile) et) i; plane = u.plane } in
      subst₂ (λ (x y : Moment K). Out call x y)
      (sym (comes_to m home broken t call n cn ∙ ap (λ (x : Seen K). come x call) et)) (sym (comes_to m home broken u d o co ∙ ap (λ (x : Seen K). come x d) eu))
      (both r b t.plane u.plane w.near call d alike)

  apart : (t u : Seen K) → Twins t u → AlikeSeen m.kind.nothing c side s t u
  apart t u w = record { tiles = w.tiles; planes = alike_to c side s m _ _ broken w.near }

  runs : (t u : Seen K) → Twins t u → (bs ds : List (Call K)) (ns os : List (Moment K)) → AlikeCalls side s bs ds → Run m home broken t bs ns → Run m home broken u ds os →
      AlikeRuns m.kind.nothing c side s bs ns os
  runs t u w [] [] [] [] a p q = tt
  runs t u w [] [] [] (o ∷ os) a p q = q
  runs t u w [] [] (n ∷ ns) os a p q = p
  runs t u w [] (d ∷ ds) ns os a p q = absurd a
  runs t u w (b ∷ bs) [] ns os a p q = absurd a
  runs t u w (b ∷ bs) (d ∷ ds) [] os a p q = p
  runs t u w (b ∷ bs) (d ∷ ds) (n ∷ ns) [] a p q = q
  runs t u w (b ∷ bs) (d ∷ ds) (n ∷ ns) (o ∷ os) a p q =
      let here = one_call t u w b d a.0 n o p.0 q.0 in
      (here.0, apart _ _ here.1, runs n.seen o.seen here.1 bs ds ns os a.1 p.1 q.1)

pub runs_stay_apart : {K : Type 0} (m : Meaning K) (c home : Corners) (broken : Breaks) → RunsStayApart m c home broken
runs_stay_apart m c home broken side closed s w xs ys lx ly agree calls others ns os alike =
    runs m c home broken side closed s (opened c w xs) (opened c w ys)
    (record { tiles = refl; frame = refl; near = alike_from c side s m xs ys (lx ∙ sym ly) agree broken }) calls others ns os alike

-- A tile's runs are the reference tile's. Assumes nothing.
use Rattle.std.proofs.Common.{◌≡◌, ℕ, zero, suc, ◌+◌, ◌-◌, ◌<◌, ◌≤◌, Bool, true, eqb, List, [], ◌∷◌, length, get_or, take, set, None, Option, sym, refl, ap, ◌∙◌, subst, ap₂, subst₂, arith, length-set}
use Rattle.std.proofs.lemmas.Bool.{eqb-true, eqb-false, eq-eqb, not-false}
use Rattle.std.proofs.lemmas.Grind.{elements}
use Rattle.std.proofs.lemmas.List.{set_past}
use Rattle.geometry.specs.declared.corners.Corners.{Corners}
use Rattle.geometry.specs.Places.{place, plane_length}
use Rattle.geometry.specs.Refusals.{Answer, accepted, refused}
use Rattle.lifting.specs.Meanings.{Meaning, Lawful}
use Rattle.lifting.specs.Passes.{Breaks}
use Rattle.lifting.specs.Stages.{Plane, stage_down, stage_up, transform}
use Rattle.lifting.proofs.StageLaws.{up_down, transform_plane, transform_top, transform_next}
use Rattle.tiles.specs.declared.call.Call.{Call}
use Rattle.tiles.specs.declared.call.Call.TheVariants.{Put, Read, Begin, Down, Up, Finish}
use Rattle.tiles.specs.declared.state.State.{State}
use Rattle.tiles.specs.declared.state.State.TheVariants.{Picture, Bands}
use Rattle.tiles.specs.Law.{RunsAreTheReferences}
use Rattle.tiles.specs.Reference.{Reference, OpenedWith, reference, shown, answers, moved, next, moment, later, history}
use Rattle.tiles.specs.Runs.{Run, HeldCall, HeldCalls, last_seen, with_put, overwritten}
use Rattle.tiles.specs.Tiles.{Seen, Moment, either, sample_answer, plain, sampled, opened, Called}
use Rattle.tiles.proofs.Outcomes.{passes, has_stage, plain_cond, sampled_cond, either_ap, came, outcome, comes_to}

-- a sample put into a plane of held samples
held_set : {K : Type 0} (held : K → Bool) (z : K) (xs : List K) (i : ℕ) (v : K) → held v ≡ true → ((k : ℕ) → held (get_or xs k z) ≡ true) → (k : ℕ) → held (get_or (set xs i v) k z) ≡ true
held_set held z xs i v hv h k = grind (arith, elements, set_past, h k)

module _ {K : Type 0} (m : Meaning K) (laws : Lawful m) (c home : Corners) (broken : Breaks) where
  abbrev tr : ℕ → List K → List K
  tr = transform m c broken

  abbrev Shown : Reference K → Seen K
  Shown = shown m c broken

  abbrev Next : Reference K → Call K → Reference K
  Next = next m c home broken

  record Good (q : Reference K) : Type 0 where
    picture : Plane m c q.picture
    low : q.stage ≤ c.levels
    top : q.state ≡ Picture → q.stage ≡ c.levels

  plane_set : (p : List K) (k : ℕ) (v : K) → m.kind.held v ≡ true → Plane m c p → Plane m c (set p k v)
  plane_set p k v hv pl = record { long = length-set p k v ∙ pl.long; held = held_set m.kind.held m.kind.nothing p k v hv pl.held }

  at_top : (s : ℕ) (p : List K) → s ≡ c.levels → tr s p ≡ p
  at_top s p e = ap (λ (n : ℕ). tr n p) e ∙ transform_top m c broken p

  one_up : (s : ℕ) (p : List K) → Plane m c p → s < c.levels → stage_up m c broken (s + 1) (tr s p) ≡ tr (s + 1) p
  one_up s p pl h =
      let e : (s + 1) - 1 ≡ s = omega arith in
      let n : tr ((s + 1) - 1) p ≡ stage_down m c broken (s + 1) (tr (s + 1) p) = transform_next m c broken (s + 1) p (omega arith) (omega arith) in
      ap (stage_up m c broken (s + 1)) (ap (λ (k : ℕ). tr k p) (sym e) ∙ n) ∙ up_down m laws c broken (s + 1) _ (transform_plane m laws c broken (s + 1) p pl)

  -- the plane that a reference tile shows is as long as its frame asks
  right_length : (q : Reference K) → Good q → eqb (length (tr q.stage q.picture)) (plane_length c) ≡ true
  right_length q g = eq-eqb _ _ (transform_plane m laws c broken q.stage q.picture g.picture).long

  -- a call whose verdict is the reference tile's answer, and whose acceptance leaves what the reference tile shows as r
  join : (q r : Reference K) → Good q → (v : Answer (Unit {0})) (u : Seen K) (b : Answer (Option K)) → plain v ≡ b → (v ≡ accepted tt → (u ≡ Shown r) × Good r) →
      (came v u (Shown q) ≡ record { answer = b; seen = Shown (either b r q) }) × Good (either b r q)
  join q r g v u b e h = subst (λ (b : Answer (Option K)). (came v u (Shown q) ≡ record { answer = b; seen = Shown (either b r q) }) × Good (either b r q)) e (here v h)
    where
      here : (v : Answer (Unit {0})) → (v ≡ accepted tt → (u ≡ Shown r) × Good r) → (came v u (Shown q) ≡ record { answer = plain v; seen = Shown (either (plain {K = K} v) r q) }) × Good (either (plain {K = K} v) r q)
      here (accepted x) h = (λ i. record { answer = accepted None; seen = (h refl).0 i }, (h refl).1)
      here (refused n) h = (refl, g)

  -- one call: the tile comes to what the reference tile comes to, which stays good
  one_call : (q : Reference K) → Good q → (call : Call K) → HeldCall m call → (n : Moment K) → Called m home broken (Shown q) call n → (outcome m home broken (Shown q) call ≡ moment m c home broken q call) × Good (Next q call)
  unfolding outcome
  one_call q g (Put p v) h n (a, (w, e, s), r) =
      join q _ g _ _ _ (rw (right_length q g) (simp plain_cond)) (λ ok. (
        λ i. record { tile = (Shown q).tile; plane = (ap (λ (xs : List K). set xs (place c p) v) (at_top _ _ (g.top w)) ∙ sym (at_top q.stage (set q.picture (place c p) v) (g.top w))) i },
        record { picture = plane_set q.picture (place c p) v h g.picture; low = g.low; top = g.top },
      ))
  one_call q g (Read p) h n r =
      let b = answers m c home broken q (Read p) in
      let same : either b q q ≡ q = either_ap (λ (x : Reference K). q) b q q in
      let e : sampled (sample_answer m.kind.nothing c (tr q.stage q.picture) p) ≡ b = rw (right_length q g) (simp sampled_cond) in
      (λ i. record { answer = e i; seen = Shown (sym same i) }, subst Good (sym same) g)
  one_call q g Begin h n (a, (w, e, s), x, r) = (
    λ i. record { answer = accepted None; seen = record { tile = record { frame = c; stage = sym (g.top w) i; state = Bands }; plane = tr q.stage q.picture } },
    record { picture = g.picture; low = g.low; top = λ e. cc },
  )
  one_call q g Down h n (a, (w, e, s), r) =
      join q _ g _ _ _ (rw (right_length q g) (simp plain_cond)) (λ ok.
      let some : q.stage ≡ 0 → ⊥ = eqb-false q.stage 0 (has_stage c home _ _ ok) in
      let low : q.stage ≤ c.levels = g.low in (
        λ i. record { tile = record { frame = c; stage = q.stage - 1; state = sym w i }; plane = sym (transform_next m c broken q.stage q.picture (omega arith) low) i },
        record { picture = g.picture; low = omega arith; top = λ x. cc },
      ))
  one_call q g Up h n (a, (w, e, s), r) =
      join q _ g _ _ _ (rw (right_length q g) (simp plain_cond)) (λ ok.
      let more : q.stage ≡ c.levels → ⊥ = eqb-false q.stage c.levels (has_stage c home _ _ ok) in
      let low : q.stage ≤ c.levels = g.low in (
        λ i. record { tile = record { frame = c; stage = q.stage + 1; state = sym w i }; plane = one_up q.stage q.picture g.picture (omega arith) i },
        record { picture = g.picture; low = omega arith; top = λ x. cc },
      ))
  one_call q g Finish h n r =
      join q _ g _ _ _ (simp plain_cond) (λ ok. (refl, record { picture = g.picture; low = g.low; top = λ x. eqb-true q.stage c.levels (not-false _ (passes _ _ _ _ ok).0) }))

  -- a run comes to the reference tile's moments, and leaves the reference tile good
  follows : (q : Reference K) → Good q → (calls : List (Call K)) (ns : List (Moment K)) → HeldCalls m calls → Run m home broken (Shown q) calls ns →
      (ns ≡ history m c home broken q calls) × Good (later m c home broken q calls)
  follows q g [] [] h r = (refl, g)
  follows q g [] (n ∷ ns) h r = absurd r
  follows q g (b ∷ bs) [] h r = absurd r
  follows q g (b ∷ bs) (n ∷ ns) h r =
      let k = one_call q g b h.0 n r.0 in
      let e : n ≡ moment m c home broken q b = comes_to m home broken (Shown q) b n r.0 ∙ k.0 in
      let rest = follows (Next q b) k.1 bs ns h.1 (subst (λ (w : Moment K). Run m home broken w.seen bs ns) e r.1) in
      (ap₂ {C = List (Moment K)} (λ w ws. w ∷ ws) e rest.0, rest.1)

  put_into : (q : Reference K) (call : Call K) → with_put c q.picture call ≡ (moved m c home broken q call).picture
  put_into q (Put p v) = refl
  put_into q (Read p) = refl
  put_into q Begin = refl
  put_into q Down = refl
  put_into q Up = refl
  put_into q Finish = refl

  planes_after : (q : Reference K) (calls : List (Call K)) (k : ℕ) →
      (last_seen (Shown q) (take k (history m c home broken q calls))).plane
      ≡ tr (last_seen (Shown q) (take k (history m c home broken q calls))).tile.stage (overwritten c q.picture (take k calls) (take k (history m c home broken q calls)))
  planes_after q calls zero = refl
  planes_after q [] (suc k) = refl
  planes_after q (b ∷ bs) (suc k) =
      let q' = Next q b in
      let rest = take k (history m c home broken q' bs) in
      let a = answers m c home broken q b in
      planes_after q' bs k ∙ ap (λ (p : List K). tr (last_seen (Shown q') rest).tile.stage (overwritten c p (take k bs) rest))
      (sym (ap (λ (p : List K). either a p q.picture) (put_into q b) ∙ either_ap (λ (x : Reference K). x.picture) a (moved m c home broken q b) q))

  good_opened : (w : State) (p : List K) → Plane m c p → Good (reference c w p)
  good_opened Picture p pl = record { picture = pl; low = omega arith; top = λ e. refl }
  good_opened Bands p pl = record { picture = pl; low = omega arith; top = λ e. cc }

  opened_shown : (w : State) (xs p : List K) → OpenedWith m c broken w xs p → opened c w xs ≡ Shown (reference c w p)
  opened_shown Picture xs p e = λ i. record { tile = record { frame = c; stage = c.levels; state = Picture }; plane = (sym e ∙ sym (transform_top m c broken p)) i }
  opened_shown Bands xs p e = λ i. record { tile = record { frame = c; stage = 0; state = Bands }; plane = sym e i }

  pub runs_are_the_references : RunsAreTheReferences m c home broken
  runs_are_the_references w xs p pp with-p calls ns held run =
      let q = reference c w p in
      let e = opened_shown w xs p with-p in
      let same = (follows q (good_opened w p pp) calls ns held (subst (λ (t : Seen K). Run m home broken t calls ns) e run)).0 in
      record {
        on_opening = e;
        after_each = same;
        planes = λ k. subst₂
            (λ (t : Seen K) (ws : List (Moment K)). (last_seen t (take k ws)).plane ≡ tr (last_seen t (take k ws)).tile.stage (overwritten c p (take k calls) (take k ws)))
            (sym e) (sym same) (planes_after q calls k);
      }

  -- what is seen of the reference tile after a list of calls
  pub last_shown : (q : Reference K) (calls : List (Call K)) → last_seen (Shown q) (history m c home broken q calls) ≡ Shown (later m c home broken q calls)
  last_shown q [] = refl
  last_shown q (b ∷ bs) = last_shown (Next q b) bs

-- What a call comes to, by what it answers and what an acceptance leaves. Assumes nothing.
use Rattle.std.proofs.Common.{◌≡◌, ℕ, ◌+◌, ◌-◌, Bool, true, false, cond, not, eqb, length, set, sym, refl, ap, ◌∙◌}
use Rattle.geometry.specs.declared.corners.Corners.{Corners}
use Rattle.geometry.specs.Places.{place}
use Rattle.geometry.specs.Refusals.{Answer, accepted, refused}
use Rattle.lifting.specs.Meanings.{Meaning}
use Rattle.lifting.specs.Passes.{Breaks}
use Rattle.lifting.specs.Stages.{stage_down, stage_up}
use Rattle.tiles.specs.declared.call.Call.{Call}
use Rattle.tiles.specs.declared.call.Call.TheVariants.{Put, Read, Begin, Down, Up, Finish}
use Rattle.tiles.specs.declared.state.State.{State}
use Rattle.tiles.specs.declared.state.State.TheVariants.{Picture, Bands}
use Rattle.tiles.specs.Tiles.{Tile, Seen, Moment, brought, either, point_answer, move_answer, sample_answer, plain, sampled, Called, is_picture, allowed}

-- an answer that accepts has passed its first ground for a refusal
pub passes : {X : Type 0} (b : Bool) (n : ℕ) (a : Answer X) (x : X) → cond b (refused n) a ≡ accepted x → (b ≡ false) × (a ≡ accepted x)
passes true n a x e = cc
passes false n a x e = (refl, e)

-- the stage that a move works is there
pub has_stage : (c home : Corners) (n : ℕ) (none : Bool) → move_answer c home n none ≡ accepted tt → none ≡ false
has_stage c home n none e = (passes _ _ _ _ (passes _ _ _ _ e).1).0

pub plain_cond : {K : Type 0} (b : Bool) (n : ℕ) (a : Answer (Unit {0})) → plain {K = K} (cond b (refused n) a) ≡ cond b (refused n) (plain a)
plain_cond true n a = refl
plain_cond false n a = refl

pub sampled_cond : {K : Type 0} (b : Bool) (n : ℕ) (a : Answer K) → sampled (cond b (refused n) a) ≡ cond b (refused n) (sampled a)
sampled_cond true n a = refl
sampled_cond false n a = refl

pub either_ap : {X Y Z : Type 0} (f : Y → Z) (a : Answer X) (x y : Y) → either a (f x) (f y) ≡ f (either a x y)
either_ap f (accepted u) x y = refl
either_ap f (refused n) x y = refl

module _ {K : Type 0} where
  -- the moment of a call with a verdict, that leaves u where it is accepted
  abbrev pub came : Answer (Unit {0}) → Seen K → Seen K → Moment K
  came a u t = record { answer = plain a; seen = either a u t }

  arrives : (n : Moment K) (t u : Seen K) (a b : Answer (Unit {0})) → a ≡ b → n.seen ≡ either a u t → n.answer ≡ plain a → n ≡ came b u t
  arrives n t u a b e s r = (λ i. record { answer = r i; seen = s i }) ∙ ap (λ (x : Answer (Unit {0})). came x u t) e

module _ {K : Type 0} (m : Meaning K) (home : Corners) (broken : Breaks) where
  unfoldable pub outcome : Seen K → Call K → Moment K
  outcome t (Put p v) = came (point_answer t.tile.frame (length t.plane) p tt) (record { tile = t.tile; plane = set t.plane (place t.tile.frame p) v }) t
  outcome t (Read p) = record { answer = sampled (sample_answer m.kind.nothing t.tile.frame t.plane p); seen = t }
  outcome t Begin = came (accepted tt) (record { tile = brought t.tile t.tile.frame.levels Bands; plane = t.plane }) t
  outcome t Down =
      came (move_answer t.tile.frame home (length t.plane) (eqb t.tile.stage 0))
      (record { tile = brought t.tile (t.tile.stage - 1) Bands; plane = stage_down m t.tile.frame broken t.tile.stage t.plane }) t
  outcome t Up =
      came (move_answer t.tile.frame home (length t.plane) (eqb t.tile.stage t.tile.frame.levels))
      (record { tile = brought t.tile (t.tile.stage + 1) Bands; plane = stage_up m t.tile.frame broken (t.tile.stage + 1) t.plane }) t
  outcome t Finish = came (cond (not (eqb t.tile.stage t.tile.frame.levels)) (refused 10) (accepted tt)) (record { tile = brought t.tile t.tile.stage Picture; plane = t.plane }) t

  pub comes_to : (t : Seen K) (call : Call K) (n : Moment K) → Called m home broken t call n → n ≡ outcome t call
  unfolding outcome
  comes_to t (Put p v) n (a, (w, e, s), r) = arrives n t _ a _ e s r
  comes_to t (Read p) n (a, (e, s), r) = λ i. record { answer = (r ∙ ap sampled e) i; seen = s i }
  comes_to t Begin n (a, (w, e, s), x, r) = λ i. record { answer = (r ∙ ap plain e) i; seen = record { tile = s i; plane = x i } }
  comes_to t Down n (a, (w, e, s), r) = arrives n t _ a _ e s r
  comes_to t Up n (a, (w, e, s), r) = arrives n t _ a _ e s r
  comes_to t Finish n (a, (w, e, s), x, r) =
      arrives n t _ a _ e ((λ i. record { tile = s i; plane = x i }) ∙ sym (either_ap (λ (y : Tile). let u : Seen K = record { tile = y; plane = t.plane } in u) a _ t.tile)) r

  -- a call that comes to a moment is one that the state allows
  pub is_allowed : (t : Seen K) (call : Call K) (n : Moment K) → Called m home broken t call n → allowed t.tile.state call ≡ true
  is_allowed t (Put p v) n (a, (w, e, s), r) = ap is_picture w
  is_allowed t (Read p) n r = refl
  is_allowed t Begin n (a, (w, e, s), x, r) = ap is_picture w
  is_allowed t Down n (a, (w, e, s), r) = ap (λ (b : State). not (is_picture b)) w
  is_allowed t Up n (a, (w, e, s), r) = ap (λ (b : State). not (is_picture b)) w
  is_allowed t Finish n (a, (w, e, s), x, r) = ap (λ (b : State). not (is_picture b)) w

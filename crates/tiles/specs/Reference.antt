-- The reference tile: a picture, a stage and a state. It has no plane of its own: what it shows as its plane is the picture's
-- transform to its stage. Assumes nothing.
use Rattle.std.specs.Prelude.{◌≡◌, ℕ, ◌+◌, ◌-◌, not, List, [], ◌∷◌, Some, None, Option, ◌==◌, slice_index_or, slice_set}
use Rattle.geometry.specs.declared.corners.Corners.{Corners}
use Rattle.geometry.specs.declared.refusal.Refusal.TheVariants.{Outside, WrongStage, OtherFrame}
use Rattle.geometry.specs.Frames.{same_frame}
use Rattle.geometry.specs.Places.{inside, place}
use Rattle.geometry.specs.Refusals.{Answer, accepted, unless}
use Rattle.lifting.specs.Meanings.{Meaning}
use Rattle.lifting.specs.Passes.{Breaks}
use Rattle.lifting.specs.Stages.{transform}
use Rattle.tiles.specs.declared.call.Call.{Call}
use Rattle.tiles.specs.declared.call.Call.TheVariants.{Put, Read, Begin, Down, Up, Finish}
use Rattle.tiles.specs.declared.state.State.{State}
use Rattle.tiles.specs.declared.state.State.TheVariants.{Picture, Bands}
use Rattle.tiles.specs.Tiles.{Seen, Moment, either, opening_stage}

pub record Reference (K : Type 0) : Type 0 where
  pub picture : List K
  pub stage : ℕ
  pub state : State

-- the picture that a tile is opened with over the plane xs: the plane itself, or the picture whose transform to stage 0 the plane is
abbrev pub OpenedWith : {K : Type 0} → Meaning K → Corners → Breaks → State → List K → List K → Type 0
OpenedWith m c broken Picture xs p = p ≡ xs
OpenedWith m c broken Bands xs p = transform m c broken 0 p ≡ xs

-- opened in a state with a picture
abbrev pub reference : {K : Type 0} → Corners → State → List K → Reference K
reference c w p = record { picture = p; stage = opening_stage c w; state = w }

-- what is seen of it
abbrev pub shown : {K : Type 0} → Meaning K → Corners → Breaks → Reference K → Seen K
shown m c broken q = record { tile = record { frame = c; stage = q.stage; state = q.state }; plane = transform m c broken q.stage q.picture }

-- m: the sample kind and the step; c: the tile's frame; home: the source's frame; broken: the source's broken gaps
module _ {K : Type 0} (m : Meaning K) (c home : Corners) (broken : Breaks) where
  -- what it answers: it refuses by 9, 10 and 11
  abbrev pub answers : Reference K → Call K → Answer (Option K)
  answers q (Put p v) = unless ((Outside, not (inside c p)) ∷ []) None
  answers q (Read p) = unless ((Outside, not (inside c p)) ∷ []) (Some (slice_index_or (transform m c broken q.stage q.picture) (place c p) m.kind.nothing))
  answers q Begin = accepted None
  answers q Down = unless ((WrongStage, (q.stage == 0)) ∷ (OtherFrame, not (same_frame c home)) ∷ []) None
  answers q Up = unless ((WrongStage, (q.stage == c.levels)) ∷ (OtherFrame, not (same_frame c home)) ∷ []) None
  answers q Finish = unless ((WrongStage, not (q.stage == c.levels)) ∷ []) None

  -- what an accepted call makes of it
  abbrev pub moved : Reference K → Call K → Reference K
  moved q (Put p v) = record { picture = slice_set q.picture (place c p) v; stage = q.stage; state = q.state }
  moved q (Read p) = q
  moved q Begin = record { picture = q.picture; stage = q.stage; state = Bands }
  moved q Down = record { picture = q.picture; stage = q.stage - 1; state = q.state }
  moved q Up = record { picture = q.picture; stage = q.stage + 1; state = q.state }
  moved q Finish = record { picture = q.picture; stage = q.stage; state = Picture }

  -- refused, it stays as it was
  abbrev pub next : Reference K → Call K → Reference K
  next q call = either (answers q call) (moved q call) q

  -- the moment that a call on it comes to
  abbrev pub moment : Reference K → Call K → Moment K
  moment q call = record { answer = answers q call; seen = shown m c broken (next q call) }

  -- it after a list of calls, and the moments that they come to
  abbrev pub later : Reference K → List (Call K) → Reference K
  later q [] = q
  later q (call ∷ calls) = later (next q call) calls

  abbrev pub history : Reference K → List (Call K) → List (Moment K)
  history q [] = []
  history q (call ∷ calls) = moment q call ∷ history (next q call) calls

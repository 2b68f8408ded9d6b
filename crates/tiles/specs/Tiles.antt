-- What is seen of a tile, and what each of its calls comes to. Assumes nothing.
use Rattle.std.specs.Prelude.{◌≡◌, ℕ, ◌+◌, ◌-◌, Bool, true, false, not, List, [], ◌∷◌, length, Some, None, Option, ◌==◌, slice_index_or, slice_set}
use Rattle.geometry.specs.declared.corners.Corners.{Corners}
use Rattle.geometry.specs.declared.point.Point.{Point}
use Rattle.geometry.specs.declared.refusal.Refusal.TheVariants.{WrongLength, Outside, WrongStage, OtherFrame}
use Rattle.geometry.specs.Frames.{same_frame}
use Rattle.geometry.specs.Places.{inside, place, plane_length}
use Rattle.geometry.specs.Refusals.{Answer, accepted, refused, unless}
use Rattle.lifting.specs.Meanings.{Meaning}
use Rattle.lifting.specs.Passes.{Breaks}
use Rattle.lifting.specs.Stages.{stage_down, stage_up}
use Rattle.tiles.specs.declared.call.Call.{Call}
use Rattle.tiles.specs.declared.call.Call.TheVariants.{Put, Read, Begin, Down, Up, Finish}
use Rattle.tiles.specs.declared.state.State.{State}
use Rattle.tiles.specs.declared.state.State.TheVariants.{Picture, Bands}

-- a tile without its plane
pub record Tile : Type 0 where
  pub frame : Corners
  pub stage : ℕ
  pub state : State

-- a tile with its plane
pub record Seen (K : Type 0) : Type 0 where
  pub tile : Tile
  pub plane : List K

-- what a call comes to: its answer, with the sample that a read tells, and what is seen after it
pub record Moment (K : Type 0) : Type 0 where
  pub answer : Answer (Option K)
  pub seen : Seen K

-- the tile at a stage and in a state
abbrev pub brought : Tile → ℕ → State → Tile
brought t s w = record { frame = t.frame; stage = s; state = w }

-- one thing where an answer is an acceptance, another where it is a refusal
abbrev pub either : {X Y : Type 0} → Answer X → Y → Y → Y
either (accepted x) new old = new
either (refused n) new old = old

-- the stage that a tile has when it is opened, and the tile that is opened
abbrev pub opening_stage : Corners → State → ℕ
opening_stage c Picture = c.levels
opening_stage c Bands = 0

abbrev pub opened : {K : Type 0} → Corners → State → List K → Seen K
opened c w xs = record { tile = record { frame = c; stage = opening_stage c w; state = w }; plane = xs }

-- x, for a plane of n samples; 4 where the frame asks for another number
abbrev pub length_answer : {X : Type 0} → Corners → ℕ → X → Answer X
length_answer c n x = unless ((WrongLength, not (n == plane_length c)) ∷ []) x

-- x, for a finest point and a plane of n samples: 4 for the wrong length, 9 outside the frame
abbrev pub point_answer : {X : Type 0} → Corners → ℕ → Point → X → Answer X
point_answer c n p x = unless ((WrongLength, not (n == plane_length c)) ∷ (Outside, not (inside c p)) ∷ []) x

-- whether a stage may be worked on a plane of n samples, with a source whose frame is `home`: 4 for the wrong length, 10 where there is
-- no such stage, 11 for another frame
abbrev pub move_answer : Corners → Corners → ℕ → Bool → Answer (Unit {0})
move_answer c home n none = unless ((WrongLength, not (n == plane_length c)) ∷ (WrongStage, none) ∷ (OtherFrame, not (same_frame c home)) ∷ []) tt

-- opening a tile over a plane
abbrev pub open_answer : {K : Type 0} → Corners → State → List K → Answer (Seen K)
open_answer c w xs = length_answer c (length xs) (opened c w xs)

-- the sample of a finest point in a plane
abbrev pub sample_answer : {K : Type 0} → K → Corners → List K → Point → Answer K
sample_answer nothing c xs p = point_answer c (length xs) p (slice_index_or xs (place c p) nothing)

-- begin makes a picture bands at the frame's highest stage
abbrev pub Begins : Tile → Answer (Unit {0}) → Tile → Type 0
Begins t a u = (t.state ≡ Picture) × (a ≡ accepted tt) × (u ≡ brought t t.frame.levels Bands)

-- finish makes bands at the highest stage a picture; 10 below that stage
abbrev pub Finishes : Tile → Answer (Unit {0}) → Tile → Type 0
Finishes t a u =
    (t.state ≡ Bands)
    × (a ≡ unless ((WrongStage, not (t.stage == t.frame.levels)) ∷ []) tt)
    × (u ≡ either a (brought t t.stage Picture) t)

module _ {K : Type 0} where
  -- put sets the sample of a finest point of a picture
  abbrev pub Puts : Seen K → Point → K → Answer (Unit {0}) → Seen K → Type 0
  Puts t p v a u =
      (t.tile.state ≡ Picture)
      × (a ≡ point_answer t.tile.frame (length t.plane) p tt)
      × (u ≡ either a (record { tile = t.tile; plane = slice_set t.plane (place t.tile.frame p) v }) t)

  -- read answers the sample that the plane has for a finest point, in either state
  abbrev pub Reads : K → Seen K → Point → Answer K → Seen K → Type 0
  Reads nothing t p a u =
      (a ≡ sample_answer nothing t.tile.frame t.plane p)
      × (u ≡ t)

  -- a stage that is worked moves bands to another stage
  abbrev pub Moves : Corners → Seen K → Bool → ℕ → List K → Answer (Unit {0}) → Seen K → Type 0
  Moves home t none s xs a u =
      (t.tile.state ≡ Bands)
      × (a ≡ move_answer t.tile.frame home (length t.plane) none)
      × (u ≡ either a (record { tile = brought t.tile s Bands; plane = xs }) t)

-- m: the sample kind and the step; home: the source's frame; broken: the source's broken gaps
module _ {K : Type 0} (m : Meaning K) (home : Corners) (broken : Breaks) where
  -- down works the present stage; there is none at stage 0
  abbrev pub Descends : Seen K → Answer (Unit {0}) → Seen K → Type 0
  Descends t = Moves home t (t.tile.stage == 0) (t.tile.stage - 1) (stage_down m t.tile.frame broken t.tile.stage t.plane)

  -- up works the stage above; there is none at the highest stage
  abbrev pub Ascends : Seen K → Answer (Unit {0}) → Seen K → Type 0
  Ascends t = Moves home t (t.tile.stage == t.tile.frame.levels) (t.tile.stage + 1) (stage_up m t.tile.frame broken (t.tile.stage + 1) t.plane)

-- an acceptance that tells nothing, and one that tells a sample
abbrev pub plain : {K : Type 0} → Answer (Unit {0}) → Answer (Option K)
plain (accepted x) = accepted None
plain (refused n) = refused n

abbrev pub sampled : {K : Type 0} → Answer K → Answer (Option K)
sampled (accepted v) = accepted (Some v)
sampled (refused n) = refused n

module _ {K : Type 0} (m : Meaning K) (home : Corners) (broken : Breaks) where
  -- a call on the tile t comes to the moment n: what the contract of that call says
  abbrev pub Called : Seen K → Call K → Moment K → Type 0
  Called t (Put p v) n = (a : Answer (Unit {0})) × Puts t p v a n.seen × (n.answer ≡ plain a)
  Called t (Read p) n = (a : Answer K) × Reads m.kind.nothing t p a n.seen × (n.answer ≡ sampled a)
  Called t Begin n = (a : Answer (Unit {0})) × Begins t.tile a n.seen.tile × (n.seen.plane ≡ t.plane) × (n.answer ≡ plain a)
  Called t Down n = (a : Answer (Unit {0})) × Descends m home broken t a n.seen × (n.answer ≡ plain a)
  Called t Up n = (a : Answer (Unit {0})) × Ascends m home broken t a n.seen × (n.answer ≡ plain a)
  Called t Finish n = (a : Answer (Unit {0})) × Finishes t.tile a n.seen.tile × (n.seen.plane ≡ t.plane) × (n.answer ≡ plain a)

-- which calls a state allows
abbrev pub is_picture : State → Bool
is_picture Picture = true
is_picture Bands = false

abbrev pub allowed : {K : Type 0} → State → Call K → Bool
allowed w (Put p v) = is_picture w
allowed w (Read p) = true
allowed w Begin = is_picture w
allowed w Down = not (is_picture w)
allowed w Up = not (is_picture w)
allowed w Finish = not (is_picture w)

-- Runs of calls on a tile. Assumes nothing.
use Rattle.std.specs.Prelude.{◌≡◌, Bool, true, ◌≢◌, ◌⊎◌, List, [], ◌∷◌, Some, Option, slice_set}
use Rattle.geometry.specs.declared.corners.Corners.{Corners}
use Rattle.geometry.specs.Places.{place}
use Rattle.geometry.specs.Refusals.{Answer, accepted}
use Rattle.lifting.specs.Borders.{Sides, AgreeOn}
use Rattle.lifting.specs.Meanings.{Meaning}
use Rattle.lifting.specs.Passes.{Breaks}
use Rattle.tiles.specs.declared.call.Call.{Call}
use Rattle.tiles.specs.declared.call.Call.TheVariants.{Put, Read, Begin, Down, Up, Finish}
use Rattle.tiles.specs.Tiles.{Seen, Moment, Called, either}

-- a run: each call comes to a moment as its contract says, on what the call before it left
abbrev pub Run : {K : Type 0} → Meaning K → Corners → Breaks → Seen K → List (Call K) → List (Moment K) → Type 0
Run m home broken t [] [] = Unit {0}
Run m home broken t [] (n ∷ ns) = ⊥
Run m home broken t (call ∷ calls) [] = ⊥
Run m home broken t (call ∷ calls) (n ∷ ns) = Called m home broken t call n × Run m home broken n.seen calls ns

-- what is seen last
abbrev pub last_seen : {K : Type 0} → Seen K → List (Moment K) → Seen K
last_seen t [] = t
last_seen t (n ∷ ns) = last_seen n.seen ns

-- a sample that is put is a value that its type can hold
abbrev pub HeldCall : {K : Type 0} → Meaning K → Call K → Type 0
HeldCall m (Put p v) = m.kind.held v ≡ true
HeldCall m (Read p) = Unit {0}
HeldCall m Begin = Unit {0}
HeldCall m Down = Unit {0}
HeldCall m Up = Unit {0}
HeldCall m Finish = Unit {0}

abbrev pub HeldCalls : {K : Type 0} → Meaning K → List (Call K) → Type 0
HeldCalls m [] = Unit {0}
HeldCalls m (call ∷ calls) = HeldCall m call × HeldCalls m calls

-- the picture p with the sample that an accepted call puts into it
abbrev pub with_put : {K : Type 0} → Corners → List K → Call K → List K
with_put c p (Put x v) = slice_set p (place c x) v
with_put c p (Read x) = p
with_put c p Begin = p
with_put c p Down = p
with_put c p Up = p
with_put c p Finish = p

-- the picture p overwritten by the accepted puts of a run
abbrev pub overwritten : {K : Type 0} → Corners → List K → List (Call K) → List (Moment K) → List K
overwritten c p [] ns = p
overwritten c p (call ∷ calls) [] = p
overwritten c p (call ∷ calls) (n ∷ ns) = overwritten c (either n.answer (with_put c p call) p) calls ns

-- two runs beside a border: side tells the side of each finest point, and s is one of the two sides
module _ {K : Type 0} (side : Sides) (s : Bool) where
  -- the same call, but for a value put on the other side
  abbrev pub AlikeCall : Call K → Call K → Type 0
  AlikeCall (Put p v) d = (w : K) × (d ≡ Put p w) × (side p ≡ s → v ≡ w)
  AlikeCall (Read p) d = d ≡ Read p
  AlikeCall Begin d = d ≡ Begin
  AlikeCall Down d = d ≡ Down
  AlikeCall Up d = d ≡ Up
  AlikeCall Finish d = d ≡ Finish

  abbrev pub AlikeCalls : List (Call K) → List (Call K) → Type 0
  AlikeCalls [] [] = Unit {0}
  AlikeCalls [] (d ∷ ds) = ⊥
  AlikeCalls (b ∷ bs) [] = ⊥
  AlikeCalls (b ∷ bs) (d ∷ ds) = AlikeCall b d × AlikeCalls bs ds

  -- the same answer, but for a sample read on the other side
  abbrev pub AlikeAnswer : Call K → Answer (Option K) → Answer (Option K) → Type 0
  AlikeAnswer (Put p v) a b = a ≡ b
  AlikeAnswer (Read p) a b = (a ≡ b) ⊎ ((side p ≢ s) × ((v : K) × (a ≡ accepted (Some v))) × ((w : K) × (b ≡ accepted (Some w))))
  AlikeAnswer Begin a b = a ≡ b
  AlikeAnswer Down a b = a ≡ b
  AlikeAnswer Up a b = a ≡ b
  AlikeAnswer Finish a b = a ≡ b

-- and c is the frame
module _ {K : Type 0} (nothing : K) (c : Corners) (side : Sides) (s : Bool) where
  -- the same frame, stage and state, and planes that agree on the side
  pub record AlikeSeen (t u : Seen K) : Type 0 where
    pub tiles : t.tile ≡ u.tile
    pub planes : AgreeOn nothing c side s t.plane u.plane

  -- after each call
  abbrev pub AlikeRuns : List (Call K) → List (Moment K) → List (Moment K) → Type 0
  AlikeRuns [] [] [] = Unit {0}
  AlikeRuns [] [] (o ∷ os) = ⊥
  AlikeRuns [] (n ∷ ns) os = ⊥
  AlikeRuns (b ∷ bs) [] os = ⊥
  AlikeRuns (b ∷ bs) (n ∷ ns) [] = ⊥
  AlikeRuns (b ∷ bs) (n ∷ ns) (o ∷ os) = AlikeAnswer side s b n.answer o.answer × AlikeSeen n.seen o.seen × AlikeRuns bs ns os

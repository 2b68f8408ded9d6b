-- The law of a tile's service. Assumes nothing.
use Rattle.std.specs.Prelude.{◌≡◌, ℕ, Bool, true, List, length, take}
use Rattle.geometry.specs.declared.corners.Corners.{Corners}
use Rattle.geometry.specs.Places.{plane_length}
use Rattle.lifting.specs.Borders.{Sides, Closed, AgreeOn}
use Rattle.lifting.specs.Laws.{EveryPlaneHasOnePicture}
use Rattle.lifting.specs.Meanings.{Meaning}
use Rattle.lifting.specs.Passes.{Breaks}
use Rattle.lifting.specs.Stages.{Plane, transform}
use Rattle.tiles.specs.declared.call.Call.{Call}
use Rattle.tiles.specs.declared.state.State.{State}
use Rattle.tiles.specs.Reference.{Reference, OpenedWith, reference, shown, history}
use Rattle.tiles.specs.Runs.{Run, HeldCalls, last_seen, overwritten, AlikeCalls, AlikeRuns}
use Rattle.tiles.specs.Tiles.{Seen, Moment, Called, opened, allowed}

-- m: the sample kind and the step; c: the tile's frame; home: the source's frame, which may be another; broken: its broken gaps
module _ {K : Type 0} (m : Meaning K) (c home : Corners) (broken : Breaks) where
  -- over the calls and the moments that they came to, the tile t was what the reference tile q was
  pub record Mirrors (t : Seen K) (q : Reference K) (calls : List (Call K)) (ns : List (Moment K)) : Type 0 where
    -- on opening: the same plane, frame, stage and state
    pub on_opening : t ≡ shown m c broken q
    -- after each call: the same answer, plane, frame, stage and state
    pub after_each : ns ≡ history m c home broken q calls
    -- after the first k calls the plane is the transform, to the present stage, of the opened picture overwritten by the accepted puts
    pub planes : (k : ℕ) →
        (last_seen t (take k ns)).plane ≡ transform m c broken (last_seen t (take k ns)).tile.stage (overwritten c q.picture (take k calls) (take k ns))

  -- every run of calls on a newly opened tile is that of the reference tile opened with the same picture
  abbrev pub RunsAreTheReferences : Type 0
  RunsAreTheReferences =
      (w : State) (xs p : List K) → Plane m c p → OpenedWith m c broken w xs p →
      (calls : List (Call K)) (ns : List (Moment K)) → HeldCalls m calls → Run m home broken (opened c w xs) calls ns →
      Mirrors (opened c w xs) (reference c w p) calls ns

  -- two tiles opened in the same way, over planes that agree on one side of a closed border, with calls that differ only in values
  -- put on the other side: after each call the planes agree on that side, and so do all answers but samples read on the other side
  abbrev pub RunsStayApart : Type 0
  RunsStayApart =
      (side : Sides) → Closed c broken side → (s : Bool) (w : State) (xs ys : List K) → length xs ≡ plane_length c → length ys ≡ plane_length c → AgreeOn m.kind.nothing c side s xs ys →
      (calls others : List (Call K)) (ns os : List (Moment K)) → AlikeCalls side s calls others →
      Run m home broken (opened c w xs) calls ns → Run m home broken (opened c w ys) others os →
      AlikeRuns m.kind.nothing c side s calls ns os

  -- a run has only calls that the tile's state allows
  abbrev pub OnlyAllowedCalls : Type 0
  OnlyAllowedCalls = (t : Seen K) (call : Call K) (n : Moment K) → Called m home broken t call n → allowed t.tile.state call ≡ true

  pub record ServesLikeTheReference : Type 0 where
    pub runs_are_the_references : RunsAreTheReferences
    pub runs_stay_apart : RunsStayApart
    pub every_plane_has_one_picture : EveryPlaneHasOnePicture m c broken
    pub only_allowed_calls : OnlyAllowedCalls

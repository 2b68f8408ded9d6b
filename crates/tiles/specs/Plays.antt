-- What comes of playing a list of calls. Assumes nothing.
use Rattle.std.specs.Prelude.{◌≡◌, ◌<◌, ◌≤◌, false, List, map, length, take, Ok, Err, vec_items, Result, Vec, slice_index_or}
use Rattle.std.specs.declared.alloc.Global.{Global}
use Rattle.geometry.specs.declared.corners.Corners.{Corners}
use Rattle.geometry.specs.Refusals.{accepted, refused, number}
use Rattle.lifting.specs.Meanings.{Meaning}
use Rattle.lifting.specs.Passes.{Breaks}
use Rattle.lifting.specs.Stages.{Plane}
use Rattle.tiles.specs.declared.call.Call.{Call}
use Rattle.tiles.specs.declared.event.Event.{Event}
use Rattle.tiles.specs.declared.state.State.{State}
use Rattle.tiles.specs.declared.unplayed.Unplayed.{Unplayed}
use Rattle.tiles.specs.declared.unplayed.Unplayed.TheVariants.{Refused, NoMemory}
use Rattle.tiles.specs.Reference.{OpenedWith, reference, shown, history, later}
use Rattle.tiles.specs.Runs.{Run, HeldCalls, last_seen}
use Rattle.tiles.specs.Tiles.{Moment, open_answer, opened, allowed}
use Rattle.tiles.specs.Views.{event_told, moment_told}

-- m: the sample kind and the step; c: the tile's frame; home: the source's frame; broken: the source's broken gaps
module _ {K : Type 0} (m : Meaning K) (c home : Corners) (broken : Breaks) where
  -- on a tile opened in the state w over the plane xs the first calls of a list were made, one for each event, and left the plane ys
  pub record Played (w : State) (xs : List K) (calls : List (Call K)) (events : List (Event K)) (ys : List K) : Type 0 where
    pub within : length events ≤ length calls
    -- the law speaks of them: the plane and the samples put are values that the type can hold
    pub opens : Plane m c xs
    pub held : HeldCalls m (take (length events) calls)
    -- they are a run, the events tell its moments, and ys is the plane after the last
    pub moments : List (Moment K)
    pub run : Run m home broken (opened c w xs) (take (length events) calls) moments
    pub told : map event_told events ≡ map moment_told moments
    pub left : (last_seen (opened c w xs) moments).plane ≡ ys
    -- all calls were made, or the tile's state does not allow the next one
    pub stopped : (call : Call K) → length events < length calls → call ≡ slice_index_or calls (length events) call → allowed (last_seen (opened c w xs) moments).tile.state call ≡ false
    -- so the events are those of the reference tile, and the plane is the one that it shows
    pub as_the_reference : (p : List K) → Plane m c p → OpenedWith m c broken w xs p →
        (map event_told events ≡ map moment_told (history m c home broken (reference c w p) (take (length events) calls)))
        × (ys ≡ (shown m c broken (later m c home broken (reference c w p) (take (length events) calls))).plane)

  -- played, or not opened, or no memory for the events; in the last two cases no call was made
  abbrev pub PlayOf : State → List K → List (Call K) → Result (Vec (Event K) Global) Unplayed → List K → Type 0
  PlayOf w xs calls (Ok v) ys = (open_answer c w xs ≡ accepted (opened c w xs)) × Played w xs calls (vec_items v) ys
  PlayOf w xs calls (Err (Refused e)) ys = (open_answer c w xs ≡ refused (number e)) × (ys ≡ xs)
  PlayOf w xs calls (Err NoMemory) ys = (open_answer c w xs ≡ accepted (opened c w xs)) × (ys ≡ xs)

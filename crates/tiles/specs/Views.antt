-- What the records of the code are, as tiles and answers. Assumes nothing.
use Rattle.std.specs.Prelude.{ℕ, List, Some, None, Ok, Err, Option, Result}
use Rattle.geometry.specs.Frames.{corners_of}
use Rattle.geometry.specs.Refusals.{Answer, accepted, refused, number}
use Rattle.tiles.specs.declared.event.Event.{Event}
use Rattle.tiles.specs.declared.event.Reply.{Reply}
use Rattle.tiles.specs.declared.event.Reply.TheVariants.{Accepted, Sample, Refused}
use Rattle.tiles.specs.declared.returned.Returned.{Returned}
use Rattle.tiles.specs.declared.state.State.{State}
use Rattle.tiles.specs.declared.state.State.TheVariants.{Picture as as_picture, Bands as as_bands}
use Rattle.tiles.specs.declared.tile.Bands.{Bands}
use Rattle.tiles.specs.declared.tile.Picture.{Picture}
use Rattle.tiles.specs.Tiles.{Tile, Seen, Moment}

abbrev pub picture_tile : Picture → Tile
picture_tile p = record { frame = corners_of p.frame; stage = (corners_of p.frame).levels; state = as_picture }

abbrev pub bands_tile : Bands → Tile
bands_tile b = record { frame = corners_of b.frame; stage = b.stage; state = as_bands }

-- a tile with what its plane holds
abbrev pub with_plane : {K : Type 0} → Tile → List K → Seen K
with_plane t xs = record { tile = t; plane = xs }

-- what finish answers, and the tile that it gives: a picture, or the bands given back
abbrev pub finish_answer : Result Picture (Returned Bands) → Answer (Unit {0})
finish_answer (Ok p) = accepted tt
finish_answer (Err e) = refused (number e.why)

abbrev pub finish_tile : Result Picture (Returned Bands) → Tile
finish_tile (Ok p) = picture_tile p
finish_tile (Err e) = bands_tile e.given

abbrev pub reply_answer : {K : Type 0} → Reply K → Answer (Option K)
reply_answer Accepted = accepted None
reply_answer (Sample v) = accepted (Some v)
reply_answer (Refused e) = refused (number e)

-- what is told of a call: its answer, and the stage and state after it
pub record Told (K : Type 0) : Type 0 where
  pub answer : Answer (Option K)
  pub stage : ℕ
  pub state : State

abbrev pub told_of : {K : Type 0} → Tile → Answer (Option K) → Told K
told_of t a = record { answer = a; stage = t.stage; state = t.state }

abbrev pub event_told : {K : Type 0} → Event K → Told K
event_told e = record { answer = reply_answer e.reply; stage = e.stage; state = e.state }

abbrev pub moment_told : {K : Type 0} → Moment K → Told K
moment_told n = told_of n.seen.tile n.answer

-- What is shown of a tile's state, of a call and of an event. A sample's text is what its type shows, if that is known. Assumes nothing.
use Rattle.std.specs.Prelude.{ℕ, List, ◌++◌, Some, Option, codes, decimal}
use Rattle.std.specs.Fmt.{◌++?◌}
use Rattle.geometry.specs.declared.point.Point.{Point}
use Rattle.geometry.specs.Refusals.{number}
use Rattle.tiles.specs.declared.call.Call.{Call}
use Rattle.tiles.specs.declared.call.Call.TheVariants.{Put, Read, Begin, Down, Up, Finish}
use Rattle.tiles.specs.declared.event.Event.{Event}
use Rattle.tiles.specs.declared.event.Reply.{Reply}
use Rattle.tiles.specs.declared.event.Reply.TheVariants.{Accepted, Sample, Refused}
use Rattle.tiles.specs.declared.state.State.{State}
use Rattle.tiles.specs.declared.state.State.TheVariants.{Picture, Bands}

abbrev pub state_text : State → List ℕ
state_text Picture = codes "picture"
state_text Bands = codes "bands"

-- a point's two numbers with a space between them
abbrev pub point_text : Point → List ℕ
point_text p = decimal p.x ++ (codes " " ++ decimal p.y)

module _ {K : Type 0} (show : K → Option (List ℕ)) where
  abbrev pub call_text : Call K → Option (List ℕ)
  call_text (Put p v) = Some (codes "put " ++ (point_text p ++ codes " ")) ++? show v
  call_text (Read p) = Some (codes "read " ++ point_text p)
  call_text Begin = Some (codes "begin")
  call_text Down = Some (codes "down")
  call_text Up = Some (codes "up")
  call_text Finish = Some (codes "finish")

  abbrev pub reply_text : Reply K → Option (List ℕ)
  reply_text Accepted = Some (codes "accepted")
  reply_text (Sample v) = Some (codes "sample ") ++? show v
  reply_text (Refused e) = Some (codes "refused " ++ decimal (number e))

  abbrev pub event_text : Event K → Option (List ℕ)
  event_text e = reply_text e.reply ++? Some (codes ", stage " ++ (decimal e.stage ++ (codes ", " ++ state_text e.state)))

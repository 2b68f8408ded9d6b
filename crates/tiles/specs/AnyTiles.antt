-- A tile in whichever state, and one call on it. Only contracts of private functions cite this. Assumes nothing.
use Rattle.std.specs.Prelude.{◌≡◌, false, List, Option, Result, MatchOption}
use Rattle.geometry.specs.declared.corners.Corners.{Corners}
use Rattle.geometry.specs.declared.refusal.Refusal.{Refusal}
use Rattle.geometry.specs.Refusals.{seen}
use Rattle.lifting.specs.Meanings.{Meaning}
use Rattle.lifting.specs.Passes.{Breaks}
use Rattle.tiles.specs.declared.call.Call.{Call}
use Rattle.tiles.specs.declared.player.AnyTile.{AnyTile}
use Rattle.tiles.specs.declared.player.AnyTile.TheVariants.{Picture, Bands}
use Rattle.tiles.specs.Runs.{HeldCall}
use Rattle.tiles.specs.Tiles.{Tile, Seen, Called, allowed}
use Rattle.tiles.specs.Views.{picture_tile, bands_tile, with_plane}

abbrev pub any_tile : AnyTile → Tile
any_tile (Picture p) = picture_tile p
any_tile (Bands b) = bands_tile b

-- a call on the tile t came to a tile with a reply, over the plane ys; to none where the state does not allow the call, and then the
-- plane is as it was
abbrev pub Makes : {K : Type 0} → Meaning K → Corners → Breaks → Seen K → Call K → List K → Option (AnyTile × Result (Option K) Refusal) → Type 0
Makes m home broken t call ys made =
    MatchOption made ((allowed t.tile.state call ≡ false) × (ys ≡ t.plane))
    (λ r. HeldCall m call × Called m home broken t call (record { answer = seen (λ o. o) r.1; seen = with_plane (any_tile r.0) ys }))

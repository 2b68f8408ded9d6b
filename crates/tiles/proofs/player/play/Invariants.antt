use Rattle.std.proofs.Common.{◌≤◌, length, vec_items, vec_capacity}
use Rattle.lifting.specs.Meanings.{meant}
use Rattle.tiles.specs.AnyTiles.{any_tile}
use Rattle.tiles.specs.Views.{with_plane}
use Rattle.tiles.proofs.Sessions.{Made}
use Rattle.tiles.proofs.player.play.Given as goal

abbrev pub invariant-loop-call : goal.invariant-loop-call
invariant-loop-call g l = record {
  made : Made (meant g.S.Sample.Sample.kind (g.S.Step.rule l.step)) (g.B.BreakSource.framed l.source) (g.B.BreakSource.broken l.source)
      (with_plane (any_tile l.initial.tile) l.initial.plane) l.calls (vec_items l.events) (with_plane (any_tile l.tile) l.plane) l.call-index;
  room : length l.calls ≤ vec_capacity l.events;
}

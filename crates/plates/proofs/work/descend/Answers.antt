use Rattle.std.proofs.Common.{◌≡◌, ℕ, ◌+◌, ◌-◌, ◌<◌, length, map, vec_items, vec_len, vec_capacity, ap, ◌∙◌, arith}
use Rattle.std.specs.List.{range_with_len}
use Rattle.std.proofs.lemmas.List.FromFn.{length-map-range_with_len}
use Rattle.geometry.specs.Frames.{corners_of}
use Rattle.lifting.specs.Stages.{transform}
use Rattle.tiles.specs.Tiles.{Seen}
use Rattle.tiles.specs.Views.{bands_tile, with_plane}
use Rattle.plates.specs.declared.range.Range.{Range}
use Rattle.plates.specs.Bands.{by_mean, ends, bands_at}
use Rattle.plates.proofs.Trips.{at_top, further_down, more_ranges}
use Rattle.plates.proofs.work.descend.Goals as goal

pub loop-stage-init : goal.loop-stage-init
loop-stage-init g c =
    let k = corners_of c.args.bands.now.frame in
    let broken = g.B.BreakSource.broken c.args.source.now in
    let xs = c.args.plane.now in
    let levels = c.stage-levels.result in
    let f : ℕ → Range = λ n. ends (transform by_mean k broken (levels - n) xs) in
    let made = c.in_ok-ranges.ensures in
    let none : 0 ≡ levels - levels = omega arith in
    let all : levels ≡ levels - (levels - levels) = omega arith in
    let top = at_top k broken xs c.args.bands.now.stage levels (omega (arith, c.stage-levels.ensures)) (omega (arith, c.stage-levels.ensures, c.requires.top)) in
    let room : vec_len c.in_ok-ranges.ranges < vec_capacity c.in_ok-ranges.ranges = omega (arith, made.len, made.capacity) in (
      top,
      more_ranges f (levels - levels) (vec_items c.in_ok-ranges.ranges) (vec_items c.push.new.self) c.range_of.result _
          (made.items ∙ ap (λ (n : ℕ). map f (range_with_len 0 n)) none)
          (c.range_of.ensures ∙ ap (λ (t : Seen _). ends t.plane) top ∙ ap (λ (s : ℕ). ends (transform by_mean k broken s xs)) all)
          c.push.ensures.items (c.push.ensures.succeeds room),
      omega (arith, made.capacity, c.push.ensures.capacity),
    )

pub unwrap-requires-in-loop-stage : goal.unwrap-requires-in-loop-stage
unwrap-requires-in-loop-stage g c =
    let xs = c.args.plane.now in
    let levels = c.stage-levels.result in
    let inv = c.loop-stage.invariant in
    let long = ap length inv.1 ∙ length-map-range_with_len (λ n. ends (transform by_mean (corners_of c.args.bands.now.frame) (g.B.BreakSource.broken c.args.source.now) (levels - n) xs)) 0 (levels - c.loop-stage._stage + 1) in
    c.push-in-loop-stage.ensures.succeeds (omega (arith, c.loop-stage.ranges.ok.0, long, inv.2, c.loop-stage-test.true, c.loop-stage.auto._stage))

pub loop-stage-preserved : goal.loop-stage-preserved
loop-stage-preserved g c =
    let k = corners_of c.args.bands.now.frame in
    let broken = g.B.BreakSource.broken c.args.source.now in
    let home = g.B.BreakSource.framed c.args.source.now in
    let xs = c.args.plane.now in
    let levels = c.stage-levels.result in
    let s = c.loop-stage._stage in
    let f : ℕ → Range = λ n. ends (transform by_mean k broken (levels - n) xs) in
    let inv = c.loop-stage.invariant in
    let n = levels - (s - 1) in
    let count : levels - s + 1 ≡ n = omega (arith, c.loop-stage-test.true, c.loop-stage.auto._stage) in
    let at : s - 1 ≡ levels - n = omega (arith, c.loop-stage-test.true, c.loop-stage.auto._stage) in
    let moved : with_plane (bands_tile c.down.new.self) c.down.new.plane ≡ bands_at k broken xs (s - 1) =
    further_down k home broken c.requires.same xs c.requires.plane s (s - 1) _ _ _ (omega (arith, c.loop-stage-test.true)) (omega (arith, c.stage-levels.ensures, c.requires.top, c.loop-stage.auto._stage)) inv.0 c.down.ensures in
    let long : length (vec_items c.loop-stage.ranges) ≡ levels - s + 1 = ap length inv.1 ∙ length-map-range_with_len f 0 (levels - s + 1) in
    let room : vec_len c.loop-stage.ranges < vec_capacity c.loop-stage.ranges = omega (arith, c.loop-stage.ranges.ok.0, long, inv.2, count, at, c.loop-stage-test.true) in (
      moved,
      more_ranges f n (vec_items c.loop-stage.ranges) (vec_items c.push-in-loop-stage.new.self) c.range_of-in-loop-stage.result _
          (inv.1 ∙ ap (λ (m : ℕ). map f (range_with_len 0 m)) count)
          (c.range_of-in-loop-stage.ensures ∙ ap (λ (t : Seen _). ends t.plane) moved ∙ ap (λ (r : ℕ). ends (transform by_mean k broken r xs)) at)
          c.push-in-loop-stage.ensures.items (c.push-in-loop-stage.ensures.succeeds room),
      omega (arith, inv.2, c.push-in-loop-stage.ensures.capacity),
    )

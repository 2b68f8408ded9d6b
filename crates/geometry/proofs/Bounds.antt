-- What a frame's bounds say of its numbers and of its resolutions. Assumes nothing.
use Rattle.std.proofs.Common.{◌≡◌, ℕ, ◌+◌, ◌*◌, ◌<◌, ◌≤◌, Bool, true, false, cond, not, ◌&&◌, leb, refl, ap, ◌∙◌, arith}
use Rattle.std.proofs.lemmas.Bool.Decides.{nat_tests}
use Rattle.geometry.specs.declared.corners.Corners.{Corners}
use Rattle.geometry.specs.declared.direction.Direction.{Direction}
use Rattle.geometry.specs.declared.direction.Direction.TheVariants.{Row, Column}
use Rattle.geometry.specs.declared.frame.Frame.{Frame}
use Rattle.std.proofs.lemmas.Bool.{cond-true, le-leb, and_left}
use Rattle.geometry.specs.declared.gap.Gap.{Gap}
use Rattle.geometry.specs.Frames.{apart, start, stop, low, high, next, is_frame, is_gap, corners_of, resolution_of, frame_answer, empty_side, too_large, too_many_levels}
use Rattle.geometry.specs.Refusals.{Answer, accepted, refused}
use Rattle.geometry.proofs.Ceilings.{ceil_mono, ceil_near, ceil_small, ceil_over}
use Rattle.geometry.proofs.Points.{apart_pos, IsPoint, point_parts}

-- the bounds of numbers that are a frame's
pub record Framed (c : Corners) : Type 0 where
  pub wide : c.x0 < c.x1
  pub high : c.y0 < c.y1
  pub narrow : c.x1 ≤ c.x0 + 512
  pub low : c.y1 ≤ c.y0 + 512
  pub right : c.x1 ≤ 1073741824
  pub bottom : c.y1 ≤ 1073741824
  pub shallow : c.levels ≤ 6

pub framed : (c : Corners) → is_frame c ≡ true → Framed c
framed c e = record {
  wide = grind (arith, nat_tests);
  high = grind (arith, nat_tests);
  narrow = grind (arith, nat_tests);
  low = grind (arith, nat_tests);
  right = grind (arith, nat_tests);
  bottom = grind (arith, nat_tests);
  shallow = grind (arith, nat_tests);
}

-- a frame's side in a direction
pub record Side (c : Corners) (d : Direction) : Type 0 where
  pub some : start c d < stop c d
  pub few : stop c d ≤ start c d + 512
  pub near : stop c d ≤ 1073741824

pub side : (f : Frame) (d : Direction) → Side (corners_of f) d
side f Row = record { some = f.wide; few = f.narrow; near = f.right }
side f Column = record { some = f.high; few = f.low; near = f.bottom }

-- a resolution's coordinates in a direction
pub record Extent (c : Corners) (r : ℕ) (d : Direction) : Type 0 where
  pub ordered : low c r d ≤ high c r d
  pub few : high c r d ≤ low c r d + 512
  pub near : high c r d ≤ 1073741824
  pub starts : start c d ≤ low c r d * apart c r
  pub over : low c r d * apart c r < start c d + apart c r

pub extent : (f : Frame) (r : ℕ) (d : Direction) → Extent (corners_of f) r d
unfolding low high
extent f r d =
    let c = corners_of f in
    let n = apart c r in
    let pos : 0 < n = apart_pos c r in
    let s = side f d in
    record {
      ordered = ceil_mono n pos (start c d) (stop c d) (omega (arith, s.some));
      few = ceil_near n pos (start c d) (stop c d) 512 s.few;
      near = omega (arith, ceil_small n pos (stop c d), s.near);
      starts = Rattle.geometry.proofs.Ceilings.ceil_le n pos (start c d) _ (omega arith);
      over = ceil_over n pos (start c d);
    }

-- what `resolution` answers, by direction, at a resolution that the frame has
pub record Answered (c : Corners) (r : ℕ) (a : (ℕ × ℕ) × (ℕ × ℕ)) : Type 0 where
  pub left : a.0.0 ≡ low c r Row
  pub right : a.0.1 ≡ high c r Row
  pub top : a.1.0 ≡ low c r Column
  pub bottom : a.1.1 ≡ high c r Column

pub answered : (c : Corners) (r : ℕ) (a : (ℕ × ℕ) × (ℕ × ℕ)) → r ≤ c.levels → a ≡ resolution_of c r → Answered c r a
answered c r a h e =
    let s = e ∙ cond-true (leb r c.levels) ((low c r Row, high c r Row), (low c r Column, high c r Column)) ((0, 0), (0, 0)) (le-leb r c.levels h) in
    record {
      left = ap (λ (v : (ℕ × ℕ) × (ℕ × ℕ)). v.0.0) s;
      right = ap (λ (v : (ℕ × ℕ) × (ℕ × ℕ)). v.0.1) s;
      top = ap (λ (v : (ℕ × ℕ) × (ℕ × ℕ)). v.1.0) s;
      bottom = ap (λ (v : (ℕ × ℕ) × (ℕ × ℕ)). v.1.1) s;
    }

-- a gap of a frame, by its two points
pub record IsGap (c : Corners) (g : Gap) : Type 0 where
  pub framed : Framed c
  pub some : 1 ≤ g.resolution
  pub from : IsPoint c g.resolution g.from
  pub to : IsPoint c g.resolution (next g.direction g.from)

pub gap_parts : (c : Corners) (g : Gap) → is_gap c g ≡ true → IsGap c g
gap_parts c g e =
    record {
      framed = framed c (grind (arith, nat_tests));
      some = grind (arith, nat_tests);
      from = point_parts c g.resolution g.from (grind (arith, nat_tests));
      to = point_parts c g.resolution (next g.direction g.from) (grind (arith, nat_tests));
    }

-- numbers that are refused are no frame's, and have no gaps
pub refused_frame : (c : Corners) (n : ℕ) → refused n ≡ frame_answer c → is_frame c ≡ false
refused_frame c n e = go (empty_side c) (too_large c) (too_many_levels c) e
  where
    go : (a b d : Bool) → ◌≡◌ {A = Answer Corners} (refused n) (cond a (refused 1) (cond b (refused 2) (cond d (refused 3) (accepted c)))) → (not a && (not b && not d)) ≡ false
    go true b d h = refl
    go false true d h = refl
    go false false true h = refl
    go false false false h = absurd (let z : ◌≡◌ {A = ℕ} 0 1 = cc in omega arith)

pub unframed : (c : Corners) (g : Gap) → is_frame c ≡ false → is_gap c g ≡ false
unframed c g e = and_left (is_frame c) _ e

-- The sub-passes of a stage in turn, and the lattice that they walk. Assumes nothing.
use Rattle.std.proofs.Common.{◌≡◌, ℕ, ◌+◌, ◌-◌, ◌*◌, ◌≤◌, Bool, true, false, List, length, get_or, sym, refl, ap, ◌∙◌, mul-le-mul, arith, pow_mono}
use Rattle.std.proofs.lemmas.Bool.Decides.{nat_tests}
use Rattle.geometry.specs.declared.corners.Corners.{Corners}
use Rattle.geometry.specs.declared.direction.Direction.{Direction}
use Rattle.geometry.specs.declared.direction.Direction.TheVariants.{Row, Column}
use Rattle.geometry.specs.declared.frame.Frame.{Frame}
use Rattle.geometry.specs.declared.lattice.Lattice.{Lattice}
use Rattle.geometry.specs.declared.point.Point.{Point}
use Rattle.geometry.specs.Frames.{corners_of, apart, width, low, same_frame}
use Rattle.geometry.specs.Places.{place, spot, corner, plane_length, lattice_of}
use Rattle.geometry.specs.Refusals.{Answer, accepted}
use Rattle.geometry.proofs.Bounds.{extent}
use Rattle.geometry.proofs.Points.{spot_below}
use Rattle.lifting.specs.Meanings.{Meaning, Lawful}
use Rattle.lifting.specs.Passes.{Breaks, pass}
use Rattle.lifting.specs.Stages.{Plane, op, amount, sub_pass, lines_by, stage_down, stage_up, stage_answer, after}
use Rattle.lifting.specs.Runs.{Outside, Suits, Small, Passes, PassesBoth, stage_by}
use Rattle.lifting.proofs.Lifts.{length_lifted}
use Rattle.lifting.proofs.StageLaws.{up_down, down_up}
use Rattle.lifting.proofs.Parts.{shape, point_of_lattice, spot_in_lattice}

pub apart_few : (f : Frame) (r : ℕ) → apart (corners_of f) r ≤ 64
unfolding apart
apart_few f r = let few : f.corners.levels - r ≤ 6 = omega arith in pow_mono {i = f.corners.levels - r} {j = 6} few

first_few : (f : Frame) (r : ℕ) → spot (corners_of f) r (corner (corners_of f) r) ≤ 65536
unfolding place
first_few f r =
    let c = corners_of f in
    let x = extent f r Row in
    let y = extent f r Column in
    let n = apart_few f r in
    let w : width c ≤ 512 = omega arith in
    let a : low c r Column * apart c r - c.y0 ≤ 64 = omega arith in
    let b : (low c r Column * apart c r - c.y0) * width c ≤ 64 * 512 = mul-le-mul a w in
    omega arith

-- the lattice of a frame is small
pub lattice_small : (f : Frame) (r size : ℕ) (l : Lattice) → r ≤ (corners_of f).levels → l ≡ lattice_of (corners_of f) r → size ≡ plane_length (corners_of f) → Small l size
lattice_small f r size l fine is long =
    let c = corners_of f in
    let s = shape c r l fine is in
    let x = extent f r Row in
    let y = extent f r Column in
    let n = apart_few f r in
    let w : width c ≤ 512 = omega arith in
    record {
      columns = omega arith;
      rows = omega arith;
      right = omega arith;
      bottom = omega arith;
      first = rw s.first (first_few f r);
      across = rw s.across n;
      down = rw s.down (mul-le-mul n w);
      within = λ i j hi hj.
          let p : Point = record { x = l.left + i; y = l.top + j } in
          let h = point_of_lattice c r l fine is p i j refl refl hi hj in
          omega (arith, long, spot_below c r p h, spot_in_lattice c r l fine is p i j h refl refl);
    }

-- two sub-passes, and two directions
pub both_of : {K : Type 0} {m : Meaning K} {broken : Breaks} {r : ℕ} {d : Direction} {first second : Bool} {l : Lattice} {xs a b : List K} →
    Passes (record { meaning = m; broken = broken; resolution = r; odd = first; join = false }) l d xs a →
    Passes (record { meaning = m; broken = broken; resolution = r; odd = second; join = true }) l d a b → PassesBoth m broken r d first second l xs b
both_of {m = m} {broken = broken} {r = r} {d = d} {first = first} {second = second} {xs = xs} f g = record {
  is = λ c suits.
      let ea = f.is c suits in
      g.is c (record { outside = suits.outside; long = ap length ea ∙ length_lifted m.kind.nothing (op m false) (amount m first) (pass c broken r d first) xs ∙ suits.long; fine = suits.fine; is = suits.is })
      ∙ ap (sub_pass m c broken r d second true) ea;
}

-- a source with the same frame breaks what is no gap of this one
pub same_outside : (c home : Corners) (broken : Breaks) → same_frame c home ≡ true → Outside home broken → Outside c broken
same_outside c home broken e outside g none = let same : c ≡ home = grind (arith, nat_tests) in outside g (rw (← same) none)

-- what an accepted stage tells
pub record Admitted (c home : Corners) (r n : ℕ) : Type 0 where
  pub long : n ≡ plane_length c
  pub some : 1 ≤ r
  pub fine : r ≤ c.levels
  pub same : same_frame c home ≡ true

pub admission : (c home : Corners) (r n : ℕ) → accepted tt ≡ stage_answer c home r n → Admitted c home r n
admission c home r n e = record { long = grind (arith, nat_tests); some = grind (arith, nat_tests); fine = grind (arith, nat_tests); same = grind (arith, nat_tests) }

-- where a stage was accepted, its lattice suits it and is small, and two directions in turn make the plane that is promised
pub admitted_small : (f : Frame) (home : Corners) (r : ℕ) {n size : ℕ} {l : Lattice} → accepted tt ≡ stage_answer (corners_of f) home r n → l ≡ lattice_of (corners_of f) r → size ≡ n → Small l size
admitted_small f home r {n} {size} {l} e is same = let a = admission (corners_of f) home r n e in lattice_small f r size l a.fine is (same ∙ a.long)

module _ {K : Type 0} (m : Meaning K) (c : Corners) (broken : Breaks) (r : ℕ) (first second : Bool) where
  length_lines : (d : Direction) (xs : List K) → length (lines_by m c broken first second r d xs) ≡ length xs
  length_lines d xs =
      length_lifted m.kind.nothing (op m true) (amount m second) (pass c broken r d second) (sub_pass m c broken r d first false xs)
      ∙ length_lifted m.kind.nothing (op m false) (amount m first) (pass c broken r d first) xs

  pub two_of : (order : Direction × Direction) {l : Lattice} {xs a b : List K} → Suits broken r l c xs → PassesBoth m broken r order.0 first second l xs a → PassesBoth m broken r order.1 first second l a b →
      b ≡ stage_by m c broken first second r order xs
  two_of order {xs = xs} suits f g =
      let ea = f.is c suits in
      g.is c (record { outside = suits.outside; long = ap length ea ∙ length_lines order.0 xs ∙ suits.long; fine = suits.fine; is = suits.is }) ∙ ap (lines_by m c broken first second r order.1) ea

  pub worked : (home : Corners) (order : Direction × Direction) {l : Lattice} {xs a b : List K} → accepted tt ≡ stage_answer c home r (length xs) → Outside home broken → l ≡ lattice_of c r →
      PassesBoth m broken r order.0 first second l xs a → PassesBoth m broken r order.1 first second l a b → b ≡ after (stage_answer c home r (length xs)) (stage_by m c broken first second r order xs) xs
  worked home order {xs = xs} e outside is f g =
      let a = admission c home r (length xs) e in
      two_of order (record { outside = same_outside c home broken a.same outside; long = a.long; fine = a.fine; is = is }) f g
      ∙ ap (λ (v : Answer (Unit {0})). after v (stage_by m c broken first second r order xs) xs) e

-- where a stage was accepted, the other way gives back what was lent
module _ {K : Type 0} (m : Meaning K) (laws : Lawful m) (c home : Corners) (broken : Breaks) (r : ℕ) (xs ys : List K) (held : (k : ℕ) → m.kind.held (get_or xs k m.kind.nothing) ≡ true) where
  kept : (there back : ℕ → List K → List K) → ((n : ℕ) (zs : List K) → Plane m c zs → back n (there n zs) ≡ zs) → ys ≡ after (stage_answer c home r (length xs)) (there r xs) xs →
      stage_answer c home r (length xs) ≡ accepted tt → back r ys ≡ xs
  kept there back undoes is e =
      ap (back r) (is ∙ ap (λ (a : Answer (Unit {0})). after a (there r xs) xs) e) ∙ undoes r xs (record { long = (admission c home r (length xs) (sym e)).long; held = held })

  pub kept_down : ys ≡ after (stage_answer c home r (length xs)) (stage_down m c broken r xs) xs → stage_answer c home r (length xs) ≡ accepted tt → stage_up m c broken r ys ≡ xs
  kept_down = kept (stage_down m c broken) (stage_up m c broken) (up_down m laws c broken)

  pub kept_up : ys ≡ after (stage_answer c home r (length xs)) (stage_up m c broken r xs) xs → stage_answer c home r (length xs) ≡ accepted tt → stage_down m c broken r ys ≡ xs
  kept_up = kept (stage_up m c broken) (stage_down m c broken) (down_up m laws c broken)

-- The place of a sample, and of a point of a resolution: the laws of both. Assumes nothing.
use Rattle.std.proofs.Common.{◌≡◌, ℕ, zero, suc, ◌+◌, ◌-◌, ◌*◌, ◌/◌, ◌%◌, ◌<◌, ◌≤◌, Bool, true, false, cond, ◌&&◌, eqb, ltb, leb, Some, None, Option, sym, refl, ap, ◌∙◌, subst, ap₂, mod-lt, mul_comm, div-lt_iff_lt-mul, mul-zero, mul-div_cancel, arith, pow_pos}
use native.Mathlib.Nat.{mul-mod_left, div-add-mod}
use lib.Arith.{digits_div, digits_mod, digits_lt}
use Rattle.std.proofs.lemmas.Bool.Decides.{nat_tests}
use Rattle.std.proofs.lemmas.Bool.{ltb-true, lt-ltb, le-ltb, cond-true, cond-false}
use Rattle.geometry.specs.declared.corners.Corners.{Corners}
use Rattle.geometry.specs.declared.direction.Direction.TheVariants.{Row, Column}
use Rattle.geometry.specs.declared.point.Point.{Point}
use Rattle.geometry.specs.Frames.{width, height, apart, low, high, is_point}
use Rattle.geometry.specs.Places.{inside, plane_length, place, point_at, Places, finest, spot, coarse, point_of, Spots}
use Rattle.geometry.proofs.Ceilings.{ceil_le, le_ceil, ceil_lt, lt_ceil, whole}

pub apart_pos : (c : Corners) (r : ℕ) → 0 < apart c r
unfolding apart
apart_pos c r = pow_pos _

pub cond_some : {X : Type 0} (b : Bool) (x p : X) → cond b (Some x) None ≡ Some p → (b ≡ true) × (x ≡ p)
cond_some true x p e = (refl, cc)
cond_some false x p e = absurd (let z : ◌≡◌ {A = ℕ} 0 1 = cc in omega arith)

-- a finest point of the frame, by its coordinates
pub record Inside (c : Corners) (p : Point) : Type 0 where
  pub left : c.x0 ≤ p.x
  pub right : p.x < c.x1
  pub top : c.y0 ≤ p.y
  pub bottom : p.y < c.y1

-- a point of resolution r, by its coordinates
pub record IsPoint (c : Corners) (r : ℕ) (p : Point) : Type 0 where
  pub fine : r ≤ c.levels
  pub left : low c r Row ≤ p.x
  pub right : p.x < high c r Row
  pub top : low c r Column ≤ p.y
  pub bottom : p.y < high c r Column

module _ (c : Corners) where
  pub inside_parts : (p : Point) → inside c p ≡ true → Inside c p
  inside_parts p e = record { left = grind (arith, nat_tests); right = grind (arith, nat_tests); top = grind (arith, nat_tests); bottom = grind (arith, nat_tests) }

  pub inside_from : (p : Point) → Inside c p → inside c p ≡ true
  inside_from p i = grind (arith, nat_tests)

  pub point_parts : (r : ℕ) (p : Point) → is_point c r p ≡ true → IsPoint c r p
  point_parts r p e = record { fine = grind (arith, nat_tests); left = grind (arith, nat_tests); right = grind (arith, nat_tests); top = grind (arith, nat_tests); bottom = grind (arith, nat_tests) }

  pub point_from : (r : ℕ) (p : Point) → IsPoint c r p → is_point c r p ≡ true
  point_from r p i = grind (arith, nat_tests)

  -- the place of a finest point
  place_within : (p : Point) → Inside c p → place c p < plane_length c
  unfolding place plane_length
  place_within p i = digits_lt (omega (arith, i.top, i.bottom)) (omega (arith, i.left, i.right))

  at_place : (p : Point) → Inside c p → point_at c (place c p) ≡ Some p
  unfolding point_at place
  at_place p i =
      let m : place c p % width c ≡ p.x - c.x0 = digits_mod (p.y - c.y0) (omega (arith, i.left, i.right)) in
      let d : place c p / width c ≡ p.y - c.y0 = digits_div (p.y - c.y0) (omega (arith, i.left, i.right)) in
      let ex : c.x0 + place c p % width c ≡ p.x = omega (arith, i.left) in
      let ey : c.y0 + place c p / width c ≡ p.y = omega (arith, i.top) in
      cond-true (ltb (place c p) (plane_length c)) _ _ (lt-ltb _ _ (place_within p i))
      ∙ ap₂ (λ (x y : ℕ). Some (record { x = x; y = y })) ex ey

  wide : (k : ℕ) → k < plane_length c → 0 < width c
  unfolding plane_length
  wide k h = positive (width c) (height c) k h
    where
      positive : (w h k : ℕ) → k < h * w → 0 < w
      positive zero h k l = absurd (omega (arith, mul-zero h))
      positive (suc w) h k l = omega arith

  -- a place of the plane, by its column and row
  pub record Standing (k : ℕ) (p : Point) : Type 0 where
    pub below : k < plane_length c
    pub x_is : p.x ≡ c.x0 + k % width c
    pub y_is : p.y ≡ c.y0 + k / width c

  pub standing : (k : ℕ) (p : Point) → point_at c k ≡ Some p → Standing k p
  unfolding point_at
  standing k p e =
      let s = cond_some (ltb k (plane_length c)) (record { x = c.x0 + k % width c; y = c.y0 + k / width c }) p e in
      record { below = ltb-true k (plane_length c) s.0; x_is = ap (λ (q : Point). q.x) (sym s.1); y_is = ap (λ (q : Point). q.y) (sym s.1) }

  from_place : (k : ℕ) (p : Point) → Standing k p → Inside c p × (place c p ≡ k)
  unfolding place plane_length
  from_place k p s =
      let w : 0 < width c = wide k s.below in
      let m : k % width c < width c = mod-lt k w in
      let d : k / width c < height c = (div-lt_iff_lt-mul w).1 s.below in
      let a : p.y - c.y0 ≡ k / width c = omega (arith, s.y_is) in
      let b : p.x - c.x0 ≡ k % width c = omega (arith, s.x_is) in (
        record { left = omega (arith, s.x_is); right = omega (arith, s.x_is); top = omega (arith, s.y_is); bottom = omega (arith, s.y_is) },
        ap₂ (λ (u v : ℕ). u * width c + v) a b ∙ omega (arith, div-add-mod k (width c), mul_comm (width c) (k / width c)),
      )

  none_past : (k : ℕ) → (k < plane_length c → ⊥) → point_at c k ≡ None
  unfolding point_at
  none_past k h = cond-false (ltb k (plane_length c)) _ _ (le-ltb k (plane_length c) (omega arith))

  pub places : Places c
  places = record {
    within = λ p e. place_within p (inside_parts p e);
    point_of_place = λ p e. at_place p (inside_parts p e);
    place_of_point = λ k p e. let f = from_place k p (standing k p e) in (inside_from p f.0, f.1);
    past = none_past;
  }

  -- a point of resolution r stands for a finest point of the frame
  pub finest_inside : (r : ℕ) (p : Point) → IsPoint c r p → Inside c (finest c r p)
  unfolding low high
  finest_inside r p i =
      let n = apart c r in
      let pos : 0 < n = apart_pos c r in
      record {
        left = ceil_le n pos c.x0 p.x i.left;
        right = ceil_lt n pos c.x1 p.x i.right;
        top = ceil_le n pos c.y0 p.y i.top;
        bottom = ceil_lt n pos c.y1 p.y i.bottom;
      }

  pub inside_finest : (r : ℕ) (p : Point) → r ≤ c.levels → Inside c (finest c r p) → IsPoint c r p
  unfolding low high
  inside_finest r p fine i =
      let n = apart c r in
      let pos : 0 < n = apart_pos c r in
      record {
        fine = fine;
        left = le_ceil n pos c.x0 p.x i.left;
        right = lt_ceil n pos c.x1 p.x i.right;
        top = le_ceil n pos c.y0 p.y i.top;
        bottom = lt_ceil n pos c.y1 p.y i.bottom;
      }

  coarse_finest : (r : ℕ) (p : Point) → r ≤ c.levels → coarse c r (Some (finest c r p)) ≡ Some p
  coarse_finest r p fine =
      let n = apart c r in
      let pos : 0 < n = apart_pos c r in
      let mx : p.x * n % n ≡ 0 = mul-mod_left p.x n in
      let my : p.y * n % n ≡ 0 = mul-mod_left p.y n in
      cond-true (leb r c.levels && (eqb (p.x * n % n) 0 && eqb (p.y * n % n) 0)) _ _ (grind (arith, nat_tests))
      ∙ ap₂ (λ (x y : ℕ). Some (record { x = x; y = y })) (mul-div_cancel p.x pos) (mul-div_cancel p.y pos)

  pub point_at_spot : (r : ℕ) (p : Point) → IsPoint c r p → point_of c r (spot c r p) ≡ Some p
  unfolding point_of
  point_at_spot r p i = ap (coarse c r) (at_place (finest c r p) (finest_inside r p i)) ∙ coarse_finest r p i.fine

  pub spot_below : (r : ℕ) (p : Point) → IsPoint c r p → spot c r p < plane_length c
  spot_below r p i = place_within (finest c r p) (finest_inside r p i)

  -- the finest point that a point of resolution r stands for, from the place of its sample
  refined : (r : ℕ) (q : Point) (p : Point) → coarse c r (Some q) ≡ Some p → (r ≤ c.levels) × (q ≡ finest c r p)
  refined r q p e =
      let n = apart c r in
      let pos : 0 < n = apart_pos c r in
      let s = cond_some (leb r c.levels && (eqb (q.x % n) 0 && eqb (q.y % n) 0)) (record { x = q.x / n; y = q.y / n }) p e in
      let ex : q.x ≡ q.x / n * n = whole n pos q.x (grind (arith, nat_tests, s.0)) in
      let ey : q.y ≡ q.y / n * n = whole n pos q.y (grind (arith, nat_tests, s.0)) in (
        grind (arith, nat_tests, s.0),
        ap₂ (λ (x y : ℕ). record { x = x; y = y }) (ex ∙ ap (λ (w : Point). w.x * n) s.1) (ey ∙ ap (λ (w : Point). w.y * n) s.1),
      )

  coarse_some : (r : ℕ) (o : Option Point) (p : Point) → coarse c r o ≡ Some p → (q : Point) × (o ≡ Some q) × (coarse c r (Some q) ≡ Some p)
  coarse_some r None p e = absurd (let z : ◌≡◌ {A = ℕ} 0 1 = cc in omega arith)
  coarse_some r (Some q) p e = (q, refl, e)

  pub spot_of_place : (r k : ℕ) (p : Point) → point_of c r k ≡ Some p → IsPoint c r p × (spot c r p ≡ k)
  unfolding point_of
  spot_of_place r k p e =
      let s = coarse_some r (point_at c k) p e in
      let t = refined r s.0 p s.2 in
      let f = from_place k s.0 (standing k s.0 s.1) in
      (inside_finest r p t.0 (subst (λ (q : Point). Inside c q) t.1 f.0), ap (place c) (sym t.1) ∙ f.1)

  pub spots : (r : ℕ) → Spots c r
  spots r = record {
    within = λ p e. spot_below r p (point_parts r p e);
    point_of_spot = λ p e. point_at_spot r p (point_parts r p e);
    spot_of_point = λ k p e. let f = spot_of_place r k p e in (point_from r p f.0, f.1);
  }

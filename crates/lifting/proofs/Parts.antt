-- The rows of a resolution's lattice as parts of a sub-pass. Assumes nothing.
use Rattle.std.proofs.Common.{◌≡◌, ℕ, zero, suc, ◌+◌, ◌-◌, ◌*◌, ◌%◌, ◌<◌, ◌≤◌, Bool, true, cond, eqb, ltb, List, sym, refl, ap, ◌∙◌, subst, ap₂, arith}
use Rattle.std.proofs.lemmas.Bool.Decides.{nat_tests}
use Rattle.std.proofs.lemmas.Bool.{eqb-true}
use Rattle.geometry.specs.declared.corners.Corners.{Corners}
use Rattle.geometry.specs.declared.direction.Direction.{Direction}
use Rattle.geometry.specs.declared.direction.Direction.TheVariants.{Row, Column}
use Rattle.geometry.specs.declared.lattice.Lattice.{Lattice}
use Rattle.geometry.specs.declared.point.Point.{Point}
use Rattle.geometry.specs.Frames.{along, next, previous, apart, width, low, high}
use Rattle.geometry.specs.Places.{spot, corner, point_of, lattice_of}
use Rattle.geometry.proofs.Bounds.{gap_parts}
use Rattle.geometry.proofs.Lattices.{lattice_is, steps_of}
use Rattle.geometry.proofs.Points.{IsPoint, point_from}
use Rattle.breaks.specs.declared.run.Run.{Run}
use Rattle.breaks.specs.Sources.{gap_from, point_in}
use Rattle.lifting.specs.Passes.{has_parity, on_point, pass}
use Rattle.lifting.specs.Stages.{op, amount}
use Rattle.lifting.specs.Runs.{Sweep, earlier, ComeTo, PartOf, Suits}
use Rattle.lifting.proofs.Lifts.{come_same}
use Rattle.lifting.proofs.Ends.{target_point}

-- a point among those of a lattice
pub record InLattice (l : Lattice) (p : Point) : Type 0 where
  pub left : l.left ≤ p.x
  pub right : p.x < l.left + l.columns
  pub top : l.top ≤ p.y
  pub bottom : p.y < l.top + l.rows

-- the numbers of a resolution's lattice
pub record Shape (c : Corners) (r : ℕ) (l : Lattice) : Type 0 where
  pub left : l.left ≡ low c r Row
  pub top : l.top ≡ low c r Column
  pub columns : l.columns ≡ high c r Row - low c r Row
  pub rows : l.rows ≡ high c r Column - low c r Column
  pub first : l.first ≡ spot c r (corner c r)
  pub across : l.across ≡ apart c r
  pub down : l.down ≡ apart c r * width c

-- the lattice of a resolution that the frame has
module _ (c : Corners) (r : ℕ) (l : Lattice) (fine : r ≤ c.levels) (is : l ≡ lattice_of c r) where
  pub shape : Shape c r l
  shape = let e = is ∙ lattice_is c r fine in rw e (record { left = refl; top = refl; columns = refl; rows = refl; first = refl; across = refl; down = refl })

  -- column i and row j, counted from the lattice's corner
  pub point_of_lattice : (p : Point) (i j : ℕ) → p.x ≡ l.left + i → p.y ≡ l.top + j → i < l.columns → j < l.rows → IsPoint c r p
  point_of_lattice p i j ex ey hi hj =
      let s = shape in
      record { fine = fine; left = omega arith; right = omega arith; top = omega arith; bottom = omega arith }

  -- and back
  pub in_lattice : (p : Point) → IsPoint c r p → InLattice l p
  in_lattice p i =
      let s = shape in
      record { left = omega arith; right = omega arith; top = omega arith; bottom = omega arith }

  pub spot_in_lattice : (p : Point) (i j : ℕ) → IsPoint c r p → p.x ≡ l.left + i → p.y ≡ l.top + j → spot c r p ≡ l.first + j * l.down + i * l.across
  spot_in_lattice p i j h ex ey =
      subst (λ (v : Lattice). spot c r p ≡ v.first + (p.y - v.top) * v.down + (p.x - v.left) * v.across) (sym is) (steps_of c r p (point_from c r p h))
      ∙ ap₂ (λ (u v : ℕ). l.first + u * l.down + v * l.across) (let e : p.y - l.top ≡ j = omega arith in e) (let e : p.x - l.left ≡ i = omega arith in e)

  fewer : (j d : ℕ) → 0 < j → j * d ≡ (j - 1) * d + d
  fewer zero d h = absurd (omega arith)
  fewer (suc j) d h = grind arith

  more : (j d : ℕ) → (j + 1) * d ≡ j * d + d
  more j d = grind arith

  -- a whole row in a column sub-pass
  pub column_part : (odd : Bool) (n j back forth : ℕ) (inside : back ≤ l.first + j * l.down) → j < l.rows → has_parity odd (l.top + j) ≡ true →
      n ≡ l.columns → back ≡ cond (ltb 0 j) l.down 0 → forth ≡ cond (ltb (j + 1) l.rows) l.down 0 →
      PartOf c odd (record { resolution = r; direction = Column; first = record { x = l.left; y = l.top + j }; step = 1 }) n
      (record { here = l.first + j * l.down; back = back; forth = forth; stride = l.across; inside = inside })
  column_part odd n j back forth inside hj par en eb ef =
      let run : Run = record { resolution = r; direction = Column; first = record { x = l.left; y = l.top + j }; step = 1 } in
      let here : (k : ℕ) → k < n → IsPoint c r (point_in run k) = λ k h. point_of_lattice (point_in run k) k j (omega arith) refl (omega arith) hj in
      record {
        step = omega arith;
        point = λ k h. point_from c r (point_in run k) (here k h);
        parity = λ k h. par;
        place = λ k h. spot_in_lattice (point_in run k) k j (here k h) (omega arith) refl;
        before = λ k h pos gap.
            let q = previous Column (point_in run k) in
            let i = (gap_parts c (gap_from r Column q) gap).from in
            let w = in_lattice q i in
            let some : 0 < j = omega arith in
            let e : back ≡ l.down = grind (arith, nat_tests) in
            sym (spot_in_lattice q k (j - 1) i (omega arith) (omega arith) ∙ omega (arith, e, fewer j l.down some));
        after = λ k h gap.
            let q = next Column (point_in run k) in
            let i = (gap_parts c (gap_from r Column (point_in run k)) gap).to in
            let w = in_lattice q i in
            let some : j + 1 < l.rows = omega arith in
            let e : forth ≡ l.down = grind (arith, nat_tests) in
            sym (spot_in_lattice q k (j + 1) i (omega arith) (omega arith) ∙ omega (arith, e, more j l.down));
        alone = λ k q h t ey lo hi. omega arith;
      }

  twice : (i k a : ℕ) → (i + 2 * k) * a ≡ i * a + k * (2 * a)
  twice i k a = grind arith

  -- columns i, i + 2, .. of a row in a row sub-pass
  pub row_part : (odd : Bool) (n j i back forth : ℕ) (inside : back ≤ l.first + j * l.down + i * l.across) → j < l.rows → ((k : ℕ) → k < n → i + 2 * k < l.columns) → has_parity odd (l.left + i) ≡ true →
      ((k : ℕ) → k < n → 0 < i + 2 * k → back ≡ l.across) → ((k : ℕ) → k < n → i + 2 * k + 1 < l.columns → forth ≡ l.across) →
      PartOf c odd (record { resolution = r; direction = Row; first = record { x = l.left + i; y = l.top + j }; step = 2 })
      n (record { here = l.first + j * l.down + i * l.across; back = back; forth = forth; stride = 2 * l.across; inside = inside })
  row_part odd n j i back forth inside hj hi par hb hf =
      let run : Run = record { resolution = r; direction = Row; first = record { x = l.left + i; y = l.top + j }; step = 2 } in
      let here : (k : ℕ) → k < n → IsPoint c r (point_in run k) = λ k h. point_of_lattice (point_in run k) (i + 2 * k) j (omega arith) refl (hi k h) hj in
      record {
        step = omega arith;
        point = λ k h. point_from c r (point_in run k) (here k h);
        parity = λ k h. ap (λ (t : ℕ). eqb t (cond odd 1 0)) (let e : (k * 2 + (l.left + i)) % 2 ≡ (l.left + i) % 2 = omega arith in e) ∙ par;
        place = λ k h. spot_in_lattice (point_in run k) (i + 2 * k) j (here k h) (omega arith) refl ∙ omega (arith, twice i k l.across);
        before = λ k h pos gap.
            let q = previous Row (point_in run k) in
            let w = in_lattice q (gap_parts c (gap_from r Row q) gap).from in
            let some : 0 < i + 2 * k = omega arith in
            sym (spot_in_lattice q (i + 2 * k - 1) j (gap_parts c (gap_from r Row q) gap).from (omega arith) refl ∙ omega (arith, hb k h some, twice i k l.across, fewer (i + 2 * k) l.across some));
        after = λ k h gap.
            let q = next Row (point_in run k) in
            let w = in_lattice q (gap_parts c (gap_from r Row (point_in run k)) gap).to in
            let some : i + 2 * k + 1 < l.columns = omega arith in
            sym (spot_in_lattice q (i + 2 * k + 1) j (gap_parts c (gap_from r Row (point_in run k)) gap).to (omega arith) refl ∙ omega (arith, hf k h some, twice i k l.across, more (i + 2 * k) l.across));
        alone = λ k q h t ey lo hi₂.
            let a : q.x % 2 ≡ cond odd 1 0 = eqb-true (q.x % 2) (cond odd 1 0) t in
            let b : (l.left + i) % 2 ≡ cond odd 1 0 = eqb-true ((l.left + i) % 2) (cond odd 1 0) par in
            omega arith;
      }

-- moving on where no point of the sub-pass stands between
pub come_jump : {K : Type 0} (s : Sweep K) (l : Lattice) (c : Corners) (xs : List K) → Suits s.broken s.resolution l c xs → (d : Direction) (ys : List K) (x y u v : ℕ) →
    ((q : Point) → InLattice l q → has_parity s.odd (along d q) ≡ true → earlier u v q ≡ earlier x y q) →
    ComeTo s c d xs x y ys → ComeTo s c d xs u v ys
come_jump s l c xs suits d ys x y u v same come =
    come_same s.meaning.kind.nothing (op s.meaning s.join) (amount s.meaning s.odd) (pass c s.broken s.resolution d s.odd) xs
    (λ k. on_point (earlier x y) (point_of c s.resolution k)) (λ k. on_point (earlier u v) (point_of c s.resolution k)) ys
    (λ k t.
    let o = target_point c s.resolution d s.odd k t in
    ap (on_point (earlier u v)) o.at ∙ same o.point (in_lattice c s.resolution l suits.fine suits.is o.point o.is) o.parity ∙ sym (ap (on_point (earlier x y)) o.at))
    come

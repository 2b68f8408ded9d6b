-- A lattice gives the place of each point of its resolution. Assumes nothing.
use Rattle.std.proofs.Common.{◌≡◌, ℕ, ◌+◌, ◌-◌, ◌*◌, ◌<◌, ◌≤◌, leb, sym, ap, ◌∙◌, subst, ap₂, mul_assoc, add-mul, arith}
use Rattle.std.proofs.lemmas.Bool.{cond-true, le-leb}
use Rattle.geometry.specs.declared.corners.Corners.{Corners}
use Rattle.geometry.specs.declared.direction.Direction.TheVariants.{Row, Column}
use Rattle.geometry.specs.declared.lattice.Lattice.{Lattice}
use Rattle.geometry.specs.Frames.{apart, width, low, high}
use Rattle.geometry.specs.Places.{place, spot, lattice_at, no_lattice, lattice_of, Steps}
use Rattle.geometry.proofs.Ceilings.{ceil_le}
use Rattle.geometry.proofs.Points.{point_parts, apart_pos}

-- a coordinate u places after t, among the finest points, less where these start
shifted : (n s t y : ℕ) → t ≤ y → s ≤ t * n → y * n - s ≡ (y - t) * n + (t * n - s)
shifted n s t y h l =
    let e : y * n ≡ (y - t) * n + t * n = ap (λ (z : ℕ). z * n) (let a : y ≡ (y - t) + t = omega arith in a) ∙ add-mul (y - t) t n in
    omega arith

steps_in : (n w a b u v : ℕ) → (u * n + a) * w + (v * n + b) ≡ a * w + b + u * (n * w) + v * n
steps_in n w a b u v = omega (arith, add-mul (u * n) a w, mul_assoc u n w)

-- the lattice of a resolution that the frame has
pub lattice_is : (c : Corners) (r : ℕ) → r ≤ c.levels → lattice_of c r ≡ lattice_at c r
lattice_is c r h = cond-true (leb r c.levels) (lattice_at c r) no_lattice (le-leb r c.levels h)

pub steps_of : (c : Corners) (r : ℕ) → Steps c r (lattice_of c r)
unfolding place low high
steps_of c r p e =
    let i = point_parts c r p e in
    let n = apart c r in
    let pos : 0 < n = apart_pos c r in
    let left : c.x0 ≤ low c r Row * n = ceil_le n pos c.x0 (low c r Row) (omega arith) in
    let top : c.y0 ≤ low c r Column * n = ceil_le n pos c.y0 (low c r Column) (omega arith) in
    let is = lattice_is c r i.fine in
    subst (λ (l : Lattice). spot c r p ≡ l.first + (p.y - l.top) * l.down + (p.x - l.left) * l.across) (sym is)
    (ap₂ (λ (a b : ℕ). a * width c + b) (shifted n c.y0 (low c r Column) p.y i.top top) (shifted n c.x0 (low c r Row) p.x i.left left)
    ∙ steps_in n (width c) (low c r Column * n - c.y0) (low c r Row * n - c.x0) (p.y - low c r Column) (p.x - low c r Row))

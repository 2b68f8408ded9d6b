use Rattle.std.proofs.Common.{◌≡◌, ℕ, ◌+◌, ◌-◌, ◌*◌, ◌<◌, ◌≤◌, sym, ◌∙◌, subst, ap₂, arith}
use Rattle.geometry.specs.declared.direction.Direction.TheVariants.{Row, Column}
use Rattle.geometry.specs.declared.frame.Frame.{Frame}
use Rattle.geometry.specs.declared.lattice.Lattice.{Lattice}
use Rattle.geometry.specs.Frames.{width, low, corners_of}
use Rattle.geometry.specs.Places.{place, lattice_at, lattice_of, Steps}
use Rattle.geometry.proofs.Bounds.{extent, answered}
use Rattle.geometry.proofs.Lattices.{lattice_is, steps_of}
use Rattle.geometry.proofs.Points.{spots}
use Rattle.geometry.proofs.frame.Frame.lattice.Goals as goal

-- the lattice l is the defined one, so it keeps the laws
lawful : (f : Frame) (r : ℕ) (l : Lattice) → l ≡ lattice_of (corners_of f) r → Steps (corners_of f) r l
lawful f r l e = subst (Steps (corners_of f) r) (sym e) (steps_of (corners_of f) r)

pub returns-then-r-self-clause-spots : goal.returns-then-r-self-clause-spots
returns-then-r-self-clause-spots c = spots (corners_of c.args.self.now) c.args.r

pub overflow_sub-result : goal.overflow_sub-result
overflow_sub-result c =
    let a = answered (corners_of c.args.self.now) c.args.r _ c.if-r-self.false c.resolution-left.ensures in
    omega (arith, a.left, a.right, (extent c.args.self.now c.args.r Row).ordered)

pub overflow_sub-result-2 : goal.overflow_sub-result-2
overflow_sub-result-2 c =
    let a = answered (corners_of c.args.self.now) c.args.r _ c.if-r-self.false c.resolution-left.ensures in
    omega (arith, a.top, a.bottom, (extent c.args.self.now c.args.r Column).ordered)

-- the first column or row, times how far apart they are
scaled : (a low n m s x : ℕ) → a ≡ low → n ≡ m → s ≤ low * m → low * m < s + m → n ≤ 64 → s < x → (s ≤ a * n) × (a * n ≤ x + 64)
scaled a low n m s x p q h l few t = let e : a * n ≡ low * m = ap₂ ◌*◌ p q in (omega arith, omega arith)

module _ (c : goal.After-resolution-left) where
  across : (c.args.self.now.corners.x0 ≤ c.resolution-left.result.0.0 * c.apart-n.result) × (c.resolution-left.result.0.0 * c.apart-n.result ≤ c.args.self.now.corners.x1 + 64)
  across =
      let a = answered (corners_of c.args.self.now) c.args.r _ c.if-r-self.false c.resolution-left.ensures in
      let x = extent c.args.self.now c.args.r Row in
      scaled _ _ _ _ _ _ a.left c.apart-n.ensures.is x.starts x.over c.apart-n.ensures.few c.args.self.now.wide

  down : (c.args.self.now.corners.y0 ≤ c.resolution-left.result.1.0 * c.apart-n.result) × (c.resolution-left.result.1.0 * c.apart-n.result ≤ c.args.self.now.corners.y1 + 64)
  down =
      let a = answered (corners_of c.args.self.now) c.args.r _ c.if-r-self.false c.resolution-left.ensures in
      let y = extent c.args.self.now c.args.r Column in
      scaled _ _ _ _ _ _ a.top c.apart-n.ensures.is y.starts y.over c.apart-n.ensures.few c.args.self.now.high

pub overflow_mul-left : goal.overflow_mul-left
overflow_mul-left c = omega (arith, across c, c.args.self.now.right)

pub overflow_mul-top : goal.overflow_mul-top
overflow_mul-top c = omega (arith, down c, c.args.self.now.bottom)

pub place_of-requires : goal.place_of-requires
place_of-requires c = record { left = (across c).0; top = (down c).0; right = (across c).1; bottom = (down c).1 }

pub returns : goal.returns
returns c =
    let f = c.args.self.now in
    let k = corners_of f in
    let r = c.args.r in
    let h : r ≤ k.levels = c.if-r-self.false in
    let a = answered k r _ h c.resolution-left.ensures in
    let n = c.apart-n.ensures.is in
    let first = c.place_of.ensures ∙ ap₂ (λ (x y : ℕ). place k (record { x = x; y = y })) (ap₂ ◌*◌ a.left n) (ap₂ ◌*◌ a.top n) in
    let is = lattice_is k r h in
    let same : ◌≡◌ {A = Lattice} (record {
      left = c.resolution-left.result.0.0;
      top = c.resolution-left.result.1.0;
      columns = c.resolution-left.result.0.1 - c.resolution-left.result.0.0;
      rows = c.resolution-left.result.1.1 - c.resolution-left.result.1.0;
      first = c.place_of.result;
      across = c.apart-n.result;
      down = c.apart-n.result * width k;
    }) (lattice_at k r) = λ i. record {
      left = a.left i;
      top = a.top i;
      columns = a.right i - a.left i;
      rows = a.bottom i - a.top i;
      first = first i;
      across = n i;
      down = n i * width k;
    } in
    let e = same ∙ sym is in
    record { is = e; steps = lawful f r _ e; spots = spots k r }

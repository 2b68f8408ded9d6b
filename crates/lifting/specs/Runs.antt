-- A pass done in place, point after point. Only contracts of private functions cite this. Assumes nothing.
use Rattle.std.specs.Prelude.{◌≡◌, ℕ, zero, suc, ◌+◌, ◌-◌, ◌*◌, ◌/◌, ◌<◌, ◌≤◌, Bool, true, false, cond, not, ◌&&◌, ◌||◌, List, length, Some, None, Option, ◌==◌, nat_lt, slice_index_or, slice_set}
use Rattle.geometry.specs.declared.corners.Corners.{Corners}
use Rattle.geometry.specs.declared.direction.Direction.{Direction}
use Rattle.geometry.specs.declared.direction.Direction.TheVariants.{Row}
use Rattle.geometry.specs.declared.lattice.Lattice.{Lattice}
use Rattle.geometry.specs.declared.point.Point.{Point}
use Rattle.geometry.specs.declared.gap.Gap.{Gap}
use Rattle.geometry.specs.Frames.{along, next, previous, is_point, is_gap}
use Rattle.geometry.specs.Places.{spot, point_of, plane_length, lattice_of}
use Rattle.breaks.specs.declared.flags.Flags.{Flags}
use Rattle.breaks.specs.declared.run.Run.{Run}
use Rattle.breaks.specs.declared.wholeness.Wholeness.{Wholeness}
use Rattle.breaks.specs.declared.wholeness.Wholeness.TheVariants.{Whole}
use Rattle.breaks.specs.Sources.{is_broken, gap_from, point_in}
use Rattle.breaks.specs.declared.source.BreakSource.{Ghosts as Sources}
use Rattle.samples.specs.declared.sample.Sample.{Ghosts as Kinds}
use Rattle.samples.specs.declared.step.Step.{Ghosts as Steps}
use Rattle.lifting.specs.declared.sweep.SubPass.{SubPass}
use Rattle.lifting.specs.declared.sweep.parts.LatticeRow.{LatticeRow}
use Rattle.lifting.specs.declared.sweep.parts.Track.{Track}
use Rattle.lifting.specs.Meanings.{Meaning, meant}
use Rattle.lifting.specs.Passes.{Breaks, Pass, lifted, has_parity, on_point, pass}
use Rattle.lifting.specs.Stages.{op, amount, sub_pass, lines_by}

-- the end that a gap leaves of the sample beyond it
abbrev pub end_of : {K : Type 0} → Wholeness → K → Option K
end_of w x = cond (is_broken w) None (Some x)

-- what a sub-pass is given, by what it means: its step with the kind of sample, the broken gaps, the resolution, the parity of its points, and whether they join
pub record Sweep (K : Type 0) : Type 0 where
  pub meaning : Meaning K
  pub broken : Breaks
  pub resolution : ℕ
  pub odd : Bool
  pub join : Bool

-- a const parameter of a type is a number here
abbrev pub sweep_of : {S B K : Type 0} {odd join : ℕ} → Kinds K → Steps S K → Sources B → SubPass S B odd join → Sweep K
sweep_of {odd = odd} {join = join} kind step source p = record {
  meaning = meant kind.kind (step.rule p.step.now);
  broken = source.broken p.source.now;
  resolution = p.resolution;
  odd = not (odd == 0);
  join = not (join == 0);
}

-- a sample changed by its two ends
abbrev pub changed : {K : Type 0} → Sweep K → K → Option K → Option K → K
changed s x a b = op s.meaning s.join x (amount s.meaning s.odd a b)

-- point k of a track changed from the places of its two ends
abbrev pub put_at : {K : Type 0} → Sweep K → Flags → Track → ℕ → List K → List K
put_at s f t k xs =
    let at = t.here + k * t.stride in
    let z = s.meaning.kind.nothing in
    slice_set xs at (changed s (slice_index_or xs at z) (end_of f.before (slice_index_or xs (at - t.back) z)) (end_of f.after (slice_index_or xs (at + t.forth) z)))

-- stands where there are no flags
abbrev pub no_flags : Flags
no_flags = record { before = Whole; after = Whole }

-- n points of a track changed one after another
unfoldable pub run_of : {K : Type 0} → Sweep K → List Flags → Track → ℕ → List K → List K
run_of s flags t zero xs = xs
run_of s flags t (suc n) xs = put_at s (slice_index_or flags n no_flags) t n (run_of s flags t n xs)

-- how far a pass over the plane xs has come in place: the targets in `done` are as the pass leaves them, every other place is as it was
pub record Come {K : Type 0} (z : K) (op : K → K → K) (amount : Option K → Option K → K) (p : Pass) (xs : List K) (done : ℕ → Bool) (ys : List K) : Type 0 where
  pub long : length ys ≡ length xs
  pub after : (k : ℕ) → p.target k ≡ true → done k ≡ true → slice_index_or ys k z ≡ slice_index_or (lifted z op amount p xs) k z
  pub before : (k : ℕ) → p.target k ≡ true → done k ≡ false → slice_index_or ys k z ≡ slice_index_or xs k z
  pub other : (k : ℕ) → p.target k ≡ false → slice_index_or ys k z ≡ slice_index_or xs k z

-- the points before (x, y), row by row
abbrev pub earlier : ℕ → ℕ → Point → Bool
earlier x y p = nat_lt p.y y || (p.y == y && nat_lt p.x x)

-- the sub-pass over the plane xs has come to the point (x, y)
abbrev pub ComeTo : {K : Type 0} → Sweep K → Corners → Direction → List K → ℕ → ℕ → List K → Type 0
ComeTo s c d xs x y ys =
    Come s.meaning.kind.nothing (op s.meaning s.join) (amount s.meaning s.odd) (pass c s.broken s.resolution d s.odd) xs (λ k. on_point (earlier x y) (point_of c s.resolution k)) ys

-- what is no gap of the frame is broken
abbrev pub Outside : Corners → Breaks → Type 0
Outside c broken = (g : Gap) → is_gap c g ≡ false → broken g ≡ true

-- a sub-pass with these breaks, on the lattice l of resolution r, is one of the frame c, and xs is as long as a plane of the frame
pub record Suits {K : Type 0} (broken : Breaks) (r : ℕ) (l : Lattice) (c : Corners) (xs : List K) : Type 0 where
  pub outside : Outside c broken
  pub long : length xs ≡ plane_length c
  pub fine : r ≤ c.levels
  pub is : l ≡ lattice_of c r

-- n points of a run in a resolution's sub-pass, with the track of their samples
pub record PartOf (c : Corners) (odd : Bool) (run : Run) (n : ℕ) (t : Track) : Type 0 where
  pub step : 0 < run.step
  pub point : (k : ℕ) → k < n → is_point c run.resolution (point_in run k) ≡ true
  pub parity : (k : ℕ) → k < n → has_parity odd (along run.direction (point_in run k)) ≡ true
  pub place : (k : ℕ) → k < n → spot c run.resolution (point_in run k) ≡ t.here + k * t.stride
  pub before : (k : ℕ) → k < n → 0 < along run.direction (point_in run k) → is_gap c (gap_from run.resolution run.direction (previous run.direction (point_in run k))) ≡ true →
      t.here + k * t.stride - t.back ≡ spot c run.resolution (previous run.direction (point_in run k))
  pub after : (k : ℕ) → k < n → is_gap c (gap_from run.resolution run.direction (point_in run k)) ≡ true →
      t.here + k * t.stride + t.forth ≡ spot c run.resolution (next run.direction (point_in run k))
  -- no other point of the parity stands between one point of the run and the next
  pub alone : (k : ℕ) (q : Point) → k < n → has_parity odd (along run.direction q) ≡ true → q.y ≡ run.first.y → (point_in run k).x ≤ q.x → q.x < (point_in run k).x + run.step → q.x ≡ (point_in run k).x

-- a lattice with small numbers, all of whose places lie in a plane of n samples
pub record Small (l : Lattice) (n : ℕ) : Type 0 where
  pub columns : l.columns ≤ 512
  pub rows : l.rows ≤ 512
  pub right : l.left + l.columns ≤ 1073741824
  pub bottom : l.top + l.rows ≤ 1073741824
  pub first : l.first ≤ 65536
  pub across : l.across ≤ 64
  pub down : l.down ≤ 32768
  pub within : (i j : ℕ) → i < l.columns → j < l.rows → l.first + j * l.down + i * l.across < n

-- whatever frame the sub-pass is of, and whatever plane it started from: if the plane `old` has come to column i of row j, then `new` has come to column k of row n.
-- Rows and columns are counted from the lattice's corner
pub record Moves {K : Type 0} (s : Sweep K) (l : Lattice) (d : Direction) (i j k n : ℕ) (old new : List K) : Type 0 where
  pub come : (c : Corners) (xs : List K) → Suits s.broken s.resolution l c xs → ComeTo s c d xs (l.left + i) (l.top + j) old → ComeTo s c d xs (l.left + k) (l.top + n) new

-- the same in one row: from column i to column k, or past its end
abbrev pub InRow : {K : Type 0} → Sweep K → LatticeRow → ℕ → ℕ → List K → List K → Type 0
InRow s row i k = Moves s row.lattice Row i row.j k row.j

abbrev pub PastRow : {K : Type 0} → Sweep K → LatticeRow → Direction → ℕ → List K → List K → Type 0
PastRow s row d i = Moves s row.lattice d i row.j 0 (row.j + 1)

-- the first column of a row sub-pass that has a point before it
abbrev pub inner : Bool → Lattice → ℕ
inner odd l = cond (has_parity odd l.left) 2 1

-- how many columns of the parity from there on have a point after them
abbrev pub inner_count : Bool → Lattice → ℕ
inner_count odd l = (l.columns - inner odd l) / 2

-- the first column of the parity after those
abbrev pub inner_end : Bool → Lattice → ℕ
inner_end odd l = inner odd l + 2 * inner_count odd l

-- whatever frame the n points of a run are of: if the plane `old` has come to the first of them, then `new` has come past the last
pub record Carries {K : Type 0} (s : Sweep K) (run : Run) (n : ℕ) (t : Track) (old new : List K) : Type 0 where
  pub come : (c : Corners) (xs : List K) → Outside c s.broken → length xs ≡ plane_length c → PartOf c s.odd run n t →
      ComeTo (record s { resolution = run.resolution }) c run.direction xs run.first.x run.first.y old →
      ComeTo (record s { resolution = run.resolution }) c run.direction xs (point_in run n).x run.first.y new

-- the sub-pass of whatever frame the lattice is of
pub record Passes {K : Type 0} (s : Sweep K) (l : Lattice) (d : Direction) (old new : List K) : Type 0 where
  pub is : (c : Corners) → Suits s.broken s.resolution l c old → new ≡ sub_pass s.meaning c s.broken s.resolution d s.odd s.join old

-- the two sub-passes of whatever frame the lattice is of
pub record PassesBoth {K : Type 0} (m : Meaning K) (broken : Breaks) (r : ℕ) (d : Direction) (first second : Bool) (l : Lattice) (old new : List K) : Type 0 where
  pub is : (c : Corners) → Suits broken r l c old → new ≡ lines_by m c broken first second r d old

-- the lines of one direction and then those of another
abbrev pub stage_by : {K : Type 0} → Meaning K → Corners → Breaks → Bool → Bool → ℕ → Direction × Direction → List K → List K
stage_by m c broken first second r order xs = lines_by m c broken first second r order.1 (lines_by m c broken first second r order.0 xs)

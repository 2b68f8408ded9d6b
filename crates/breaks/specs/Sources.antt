-- What a break source says of gaps and of runs of points. Assumes nothing.
use Rattle.std.specs.Prelude.{◌≡◌, ℕ, ◌+◌, ◌*◌, ◌<◌, Bool, true, false, cond, List, length, Some, None, Option, ◌==◌, slice_index_or}
use Rattle.geometry.specs.declared.direction.Direction.{Direction}
use Rattle.geometry.specs.declared.gap.Gap.{Gap}
use Rattle.geometry.specs.declared.point.Point.{Point}
use Rattle.geometry.specs.Frames.{along, previous}
use Rattle.breaks.specs.declared.flags.Flags.{Flags}
use Rattle.breaks.specs.declared.run.Run.{Run}
use Rattle.breaks.specs.declared.wholeness.Wholeness.{Wholeness}
use Rattle.breaks.specs.declared.wholeness.Wholeness.TheVariants.{Whole, Broken}

-- which of the words that a source has for a gap says that it is broken
abbrev pub is_broken : Wholeness → Bool
is_broken Whole = false
is_broken Broken = true

-- the gap from a point to the next in a direction
abbrev pub gap_from : ℕ → Direction → Point → Gap
gap_from r d p = record { resolution = r; direction = d; from = p }

-- the gap to a point from the one before it in a direction; none at coordinate 0
abbrev pub gap_before : ℕ → Direction → Point → Option Gap
gap_before r d p = cond (along d p == 0) None (Some (gap_from r d (previous d p)))

-- whether the gap after a point is broken, and the one before it; where there is none it counts as broken
abbrev pub after_broken : (Gap → Bool) → ℕ → Direction → Point → Bool
after_broken broken r d p = broken (gap_from r d p)

abbrev pub before_broken : (Gap → Bool) → ℕ → Direction → Point → Bool
before_broken broken r d p = cond (along d p == 0) true (broken (gap_from r d (previous d p)))

-- the point at index k of a run
abbrev pub point_in : Run → ℕ → Point
point_in run k = record { x = k * run.step + run.first.x; y = run.first.y }

-- the flags say of each point of the run whether its gaps are broken
abbrev pub FlagsOf : (Gap → Bool) → Run → ℕ → Flags → Type 0
FlagsOf broken run k f =
    (is_broken f.before ≡ before_broken broken run.resolution run.direction (point_in run k))
    × (is_broken f.after ≡ after_broken broken run.resolution run.direction (point_in run k))

abbrev pub Flagged : (Gap → Bool) → List Flags → Run → Type 0
Flagged broken flags run = (k : ℕ) (f : Flags) → k < length flags → FlagsOf broken run k (slice_index_or flags k f)

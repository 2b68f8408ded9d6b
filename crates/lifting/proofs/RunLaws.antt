-- Points changed one after another come to what the pass makes of them. Assumes nothing.
use Rattle.std.proofs.Common.{◌≡◌, ℕ, zero, suc, ◌+◌, ◌-◌, ◌*◌, ◌<◌, ◌≤◌, Bool, true, false, cond, List, length, get_or, Some, None, Option, sym, refl, ap, ◌∙◌, subst, ap₂, add-mul, one-mul, zero-mul, add-one, arith}
use Rattle.std.proofs.lemmas.Bool.Decides.{nat_tests}
use Rattle.geometry.specs.declared.corners.Corners.{Corners}
use Rattle.geometry.specs.declared.direction.Direction.{Direction}
use Rattle.geometry.specs.declared.gap.Gap.{Gap}
use Rattle.geometry.specs.declared.point.Point.{Point}
use Rattle.geometry.specs.Frames.{along, next, previous, is_gap}
use Rattle.geometry.specs.Places.{spot, point_of, plane_length}
use Rattle.geometry.proofs.Points.{point_parts, point_at_spot, spot_below}
use Rattle.breaks.specs.declared.flags.Flags.{Flags}
use Rattle.breaks.specs.declared.run.Run.{Run}
use Rattle.breaks.specs.Sources.{is_broken, gap_from, point_in, before_broken, FlagsOf, Flagged}
use Rattle.lifting.specs.Passes.{Breaks, end_at, has_parity, across, end_before, end_after, on_point, from_point, pass}
use Rattle.lifting.specs.Stages.{op, amount}
use Rattle.lifting.specs.Runs.{Sweep, changed, run_of, put_at, no_flags, earlier, ComeTo, Outside, PartOf, Carries}
use Rattle.lifting.specs.declared.sweep.parts.Track.{Track}
use Rattle.lifting.proofs.Lifts.{come_one}
use Rattle.lifting.proofs.Ends.{pass_apart, target_point}

pub run_more : {K : Type 0} (s : Sweep K) (flags : List Flags) (t : Track) (n : ℕ) (xs : List K) →
    run_of s flags t (n + 1) xs ≡ put_at s (get_or flags n no_flags) t n (run_of s flags t n xs)
unfolding run_of
run_more s flags t n xs = ap (λ (i : ℕ). run_of s flags t i xs) (add-one n)

-- moving on along a row makes earlier only what stands between
earlier_same : (x s y : ℕ) (q : Point) → (q.y ≡ y → x ≤ q.x → q.x < x + s → ⊥) → earlier (x + s) y q ≡ earlier x y q
earlier_same x s y q none = grind (arith, nat_tests)

earlier_here : (x y : ℕ) (q : Point) → q.x ≡ x → q.y ≡ y → earlier x y q ≡ false
earlier_here x y q ex ey = grind (arith, nat_tests)

earlier_past : (x s y : ℕ) (q : Point) → 0 < s → q.x ≡ x → q.y ≡ y → earlier (x + s) y q ≡ true
earlier_past x s y q pos ex ey = grind (arith, nat_tests)

-- an end that a flag leaves is the end of the pass
module _ {K : Type 0} (z : K) (c : Corners) (broken : Breaks) (outside : Outside c broken) (ys : List K) where
  -- by what a flag says of the gap
  across_end : (w : Bool) (g : Gap) (q : Point) (e : ℕ) → w ≡ broken g → (is_gap c g ≡ true → e ≡ spot c g.resolution q) → cond w None (Some (get_or ys e z)) ≡ end_at z ys (across c broken g q)
  across_end w g q e h same = let out = outside g in grind arith

  before_end : (w : Bool) (r : ℕ) (d : Direction) (p : Point) (e : ℕ) → w ≡ before_broken broken r d p →
      (0 < along d p → is_gap c (gap_from r d (previous d p)) ≡ true → e ≡ spot c r (previous d p)) → cond w None (Some (get_or ys e z)) ≡ end_at z ys (end_before c broken r d p)
  before_end w r d p e h same = let one = λ (pos : 0 < along d p). across_end w (gap_from r d (previous d p)) (previous d p) e in grind (arith, nat_tests)

module _ {K : Type 0} (s : Sweep K) (c : Corners) (outside : Outside c s.broken) (run : Run) (n : ℕ) (t : Track) (part : PartOf c s.odd run n t) (xs : List K) (long : length xs ≡ plane_length c) where
  abbrev r : ℕ
  r = run.resolution

  abbrev d : Direction
  d = run.direction

  abbrev y : ℕ
  y = run.first.y

  abbrev Comes : ℕ → List K → Type 0
  Comes x ys = ComeTo (record s { resolution = r }) c d xs x y ys

  point_more : (k : ℕ) → (point_in run (k + 1)).x ≡ (point_in run k).x + run.step
  point_more k = omega (arith, add-mul k 1 run.step, one-mul run.step)

  -- one point of a run
  run_one : (flags : List Flags) (k : ℕ) (ys : List K) → k < n → FlagsOf s.broken run k (get_or flags k no_flags) → Comes (point_in run k).x ys → Comes (point_in run (k + 1)).x (put_at s (get_or flags k no_flags) t k ys)
  run_one flags k ys h told come =
      let p = point_in run k in
      let here = t.here + k * t.stride in
      let i = point_parts c r p (part.point k h) in
      let at : point_of c r here ≡ Some p = ap (point_of c r) (sym (part.place k h)) ∙ point_at_spot c r p i in
      let target : on_point (λ q. has_parity s.odd (along d q)) (point_of c r here) ≡ true = ap (on_point (λ q. has_parity s.odd (along d q))) at ∙ part.parity k h in
      subst (λ (x : ℕ). Comes x (put_at s (get_or flags k no_flags) t k ys)) (sym (point_more k))
      (come_one s.meaning.kind.nothing (op s.meaning s.join) (amount s.meaning s.odd) (pass c s.broken r d s.odd) xs
      (λ j. on_point (earlier p.x y) (point_of c r j)) (λ j. on_point (earlier (p.x + run.step) y) (point_of c r j)) ys here _
      (pass_apart c s.broken r d s.odd)
      (subst (λ (e : ℕ). e < length xs) (part.place k h) (subst (λ (l : ℕ). spot c r p < l) (sym long) (spot_below c r p i)))
      target
      (ap (on_point (earlier p.x y)) at ∙ earlier_here p.x y p refl refl)
      (ap (on_point (earlier (p.x + run.step) y)) at ∙ earlier_past p.x run.step y p part.step refl refl)
      (λ j ne u.
      let o = target_point c r d s.odd j u in
      ap (on_point (earlier (p.x + run.step) y)) o.at
      ∙ earlier_same p.x run.step y o.point (λ ey low high.
      let ex : o.point.x ≡ p.x = part.alone k o.point h o.parity ey low high in
      let same : o.point ≡ p = ap₂ (λ (a b : ℕ). record { x = a; y = b }) ex ey in
      ne (sym o.place ∙ ap (spot c r) same ∙ part.place k h))
      ∙ sym (ap (on_point (earlier p.x y)) o.at))
      (ap₂ (λ (a b : Option K). changed s (get_or ys here s.meaning.kind.nothing) a b)
      (before_end s.meaning.kind.nothing c s.broken outside ys (is_broken (get_or flags k no_flags).before) r d p (here - t.back) told.0 (λ pos gap. part.before k h pos gap)
      ∙ ap (λ (o : Option Point). end_at s.meaning.kind.nothing ys (from_point (end_before c s.broken r d) o)) (sym at))
      (across_end s.meaning.kind.nothing c s.broken outside ys (is_broken (get_or flags k no_flags).after) (gap_from r d p) (next d p) (here + t.forth) told.1 (λ gap. part.after k h gap)
      ∙ ap (λ (o : Option Point). end_at s.meaning.kind.nothing ys (from_point (end_after c s.broken r d) o)) (sym at)))
      come)

  run_some : (flags : List Flags) (k : ℕ) (ys : List K) → k ≤ n → ((i : ℕ) → i < n → FlagsOf s.broken run i (get_or flags i no_flags)) → Comes run.first.x ys → Comes (point_in run k).x (run_of s flags t k ys)
  unfolding run_of
  run_some flags zero ys h told come =
      subst (λ (x : ℕ). Comes x ys) (let e : run.first.x ≡ 0 * run.step + run.first.x = omega (arith, zero-mul run.step) in e) come
  run_some flags (suc k) ys h told come =
      subst (λ (i : ℕ). Comes (point_in run i).x (run_of s flags t (suc k) ys)) (add-one k)
      (run_one flags k _ h (told k h) (run_some flags k ys (omega arith) told come))

  pub run_comes : (flags : List Flags) (ys : List K) → length flags ≡ n → Flagged s.broken flags run → Comes run.first.x ys → Comes (point_in run n).x (run_of s flags t (length flags) ys)
  run_comes flags ys size told come =
      subst (λ (i : ℕ). Comes (point_in run n).x (run_of s flags t i ys)) (sym size)
      (run_some flags n ys (omega arith) (λ i h. told i no_flags (let l : i < length flags = omega arith in l)) come)

-- a run of n points brings the pass from its first point to past its last
pub carried : {K : Type 0} {s : Sweep K} {run : Run} {n : ℕ} {t : Track} {old new : List K} (flags : List Flags) → length flags ≡ n → Flagged s.broken flags run →
    new ≡ run_of s flags t (length flags) old → Carries s run n t old new
carried {s = s} {run = run} {n = n} {t = t} {old = old} flags size told e = record {
  come = λ c xs outside long part come. subst (λ ys. ComeTo (record s { resolution = run.resolution }) c run.direction xs (point_in run n).x run.first.y ys) (sym e)
      (run_comes s c outside run n t part xs long flags old size told come);
}

-- A loop that fills flags, and points past every frame. Assumes nothing.
use Rattle.std.proofs.Common.{◌≡◌, ℕ, ◌+◌, ◌^◌, ◌<◌, ◌≤◌, Bool, true, false, cond, eqb, List, length, get_or, set, Some, None, Option, sym, refl, ap, ◌∙◌, subst, inl, inr, ⊎_elim, arith, get_or-set_other, get_or-set_same}
use Rattle.std.proofs.lemmas.Bool.{cases_eq, cases_Bool}
use Rattle.geometry.specs.declared.corners.Corners.{Corners}
use Rattle.geometry.specs.declared.direction.Direction.{Direction}
use Rattle.geometry.specs.declared.direction.Direction.TheVariants.{Row, Column}
use Rattle.geometry.specs.declared.gap.Gap.{Gap}
use Rattle.geometry.specs.declared.point.Point.{Point}
use Rattle.geometry.specs.Frames.{is_gap, high, apart, along, previous}
use Rattle.geometry.proofs.Ceilings.{ceil_small}
use Rattle.geometry.proofs.Bounds.{gap_parts}
use Rattle.geometry.proofs.Points.{apart_pos}
use Rattle.breaks.specs.declared.flags.Flags.{Flags}
use Rattle.breaks.specs.declared.run.Run.{Run}
use Rattle.breaks.specs.declared.wholeness.Wholeness.{Wholeness}
use Rattle.breaks.specs.declared.wholeness.Wholeness.TheVariants.{Broken}
use Rattle.breaks.specs.Sources.{is_broken, FlagsOf, gap_from, gap_before, point_in, before_broken, after_broken}

-- the flags below index i are filled
abbrev pub FilledTo : (Gap → Bool) → Run → List Flags → ℕ → Type 0
FilledTo broken run flags i = (k : ℕ) (f : Flags) → k < i → FlagsOf broken run k (get_or flags k f)

pub filled_more : (broken : Gap → Bool) (run : Run) (flags : List Flags) (i : ℕ) (v : Flags) → i < length flags → FlagsOf broken run i v → FilledTo broken run flags i → FilledTo broken run (set flags i v) (i + 1)
filled_more broken run flags i v h fresh before k f l = ⊎_elim
    (λ e. subst (λ (n : ℕ). FlagsOf broken run n (get_or (set flags i v) n f)) (sym e) (subst (FlagsOf broken run i) (sym (get_or-set_same flags i v f h)) fresh))
    (λ ne. subst (FlagsOf broken run k) (sym (get_or-set_other flags i k v f ne)) (before k f (let m : k < i = omega arith in m)))
    (cases_eq k i)

-- a gap's first column is below 2^30
pub gap_near : (c : Corners) (g : Gap) → is_gap c g ≡ true → g.from.x < 1073741824
unfolding high
gap_near c g e =
    let i = gap_parts c g e in
    omega (arith, i.from.right, ceil_small (apart c g.resolution) (apart_pos c g.resolution) c.x1, i.framed.right)

pub far_no_gap : (c : Corners) (g : Gap) → 1073741824 ≤ g.from.x → is_gap c g ≡ false
far_no_gap c g h = elim (cases_Bool (is_gap c g)) [ inl e ↦ absurd (let l = gap_near c g e in omega arith) | inr e ↦ e ]

pub far_before : (d : Direction) (p : Point) → 2 ^ 32 ≤ p.x → 1073741824 ≤ (previous d p).x
far_before Row p h = omega arith
far_before Column p h = omega arith

-- a point past every frame has both its gaps broken
pub far_broken : (broken : Gap → Bool) (c : Corners) → ((g : Gap) → is_gap c g ≡ false → broken g ≡ true) → (r : ℕ) (d : Direction) (p : Point) → 2 ^ 32 ≤ p.x → (true ≡ before_broken broken r d p) × (true ≡ after_broken broken r d p)
far_broken broken c outside r d p h =
    (sym (first (eqb (along d p) 0)), sym (outside _ (far_no_gap c _ (let l : 1073741824 ≤ p.x = omega arith in l))))
  where
    first : (b : Bool) → cond b true (broken (gap_from r d (previous d p))) ≡ true
    first true = refl
    first false = outside _ (far_no_gap c _ (far_before d p h))

module _ (broken : Gap → Bool) (r : ℕ) (d : Direction) (p : Point) where
  pub before_some : (g : Gap) → Some g ≡ gap_before r d p → broken g ≡ before_broken broken r d p
  before_some g e = go (eqb (along d p) 0) e
    where
      go : (b : Bool) → Some g ≡ cond b None (Some (gap_from r d (previous d p))) → broken g ≡ cond b true (broken (gap_from r d (previous d p)))
      go true e = absurd (let z : ◌≡◌ {A = ℕ} 0 1 = cc in omega arith)
      go false e = ap broken (cc)

  pub before_none : None ≡ gap_before r d p → true ≡ before_broken broken r d p
  before_none e = go (eqb (along d p) 0) e
    where
      go : (b : Bool) → ◌≡◌ {A = Option Gap} None (cond b None (Some (gap_from r d (previous d p)))) → true ≡ cond b true (broken (gap_from r d (previous d p)))
      go true e = refl
      go false e = absurd (let z : ◌≡◌ {A = ℕ} 0 1 = cc in omega arith)

-- the flags of one point, from what was said of its gaps
pub flags_of : (broken : Gap → Bool) (run : Run) (k : ℕ) (f : Flags) (b a : Wholeness) (p : Point) → f ≡ record { before = b; after = a } → p ≡ point_in run k →
    is_broken b ≡ before_broken broken run.resolution run.direction p → is_broken a ≡ after_broken broken run.resolution run.direction p → FlagsOf broken run k f
flags_of broken run k f b a p e q hb ha = (
  ap (λ (x : Flags). is_broken x.before) e ∙ hb ∙ ap (before_broken broken run.resolution run.direction) q,
  ap (λ (x : Flags). is_broken x.after) e ∙ ha ∙ ap (after_broken broken run.resolution run.direction) q,
)

-- where everything is broken, so are the two gaps of each point
pub unframed_broken : (broken : Gap → Bool) → ((g : Gap) → broken g ≡ true) → (run : Run) (k : ℕ) → FlagsOf broken run k (record { before = Broken; after = Broken })
unframed_broken broken all run k = (sym (first (eqb (along run.direction (point_in run k)) 0)), sym (all _))
  where
    first : (b : Bool) → cond b true (broken (gap_from run.resolution run.direction (previous run.direction (point_in run k)))) ≡ true
    first true = refl
    first false = all _

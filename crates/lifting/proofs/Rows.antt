-- How far the rows of a sub-pass bring it, and that they stay in the plane. Assumes nothing.
use Rattle.std.proofs.Common.{◌≡◌, ℕ, ◌+◌, ◌-◌, ◌*◌, ◌<◌, ◌≤◌, Bool, true, false, cond, ltb, ◌⊎◌, List, sym, ap, ◌∙◌, subst, le-mul_of_pos_right, arith}
use Rattle.std.proofs.lemmas.Bool.Decides.{nat_tests}
use Rattle.std.proofs.lemmas.Bool.{cond-true}
use Rattle.geometry.specs.declared.direction.Direction.{Direction}
use Rattle.geometry.specs.declared.direction.Direction.TheVariants.{Row, Column}
use Rattle.geometry.specs.declared.lattice.Lattice.{Lattice}
use Rattle.geometry.specs.declared.point.Point.{Point}
use Rattle.breaks.specs.declared.run.Run.{Run}
use Rattle.lifting.specs.declared.sweep.parts.LatticeRow.{LatticeRow}
use Rattle.lifting.specs.declared.sweep.parts.Track.{Track}
use Rattle.lifting.specs.Passes.{has_parity, on_point, pass}
use Rattle.lifting.specs.Stages.{op, amount}
use Rattle.lifting.specs.Runs.{Sweep, earlier, ComeTo, PartOf, Small, Carries, Moves, InRow, PastRow, Passes, inner, inner_count, inner_end}
use Rattle.geometry.specs.Places.{point_of}
use Rattle.geometry.proofs.Points.{IsPoint}
use Rattle.lifting.proofs.Lifts.{come_none, come_all}
use Rattle.lifting.proofs.Ends.{target_point}
use Rattle.lifting.proofs.Parts.{column_part, row_part, come_jump, in_lattice}

-- every point of the rows above is earlier, and none of those from a point on
earlier_above : (x y : ℕ) (q : Point) → q.y < y → earlier x y q ≡ true
earlier_above x y q h = grind (arith, nat_tests)

earlier_below : (x y : ℕ) (q : Point) → x ≤ q.x → y ≤ q.y → earlier x y q ≡ false
earlier_below x y q hx hy = grind (arith, nat_tests)

-- from a stop in a row to another in it, and to the start of the next
earlier_apart : (x u y : ℕ) (q : Point) → (q.y ≡ y → ltb q.x u ≡ ltb q.x x) → earlier u y q ≡ earlier x y q
earlier_apart x u y q same = grind (arith, nat_tests)

earlier_next : (x w y z : ℕ) (q : Point) → z ≡ y + 1 → w ≤ q.x → (q.y ≡ y → q.x < x) → earlier w z q ≡ earlier x y q
earlier_next x w y z q e h all = grind (arith, nat_tests)

-- one stretch after another
pub moves_on : {K : Type 0} {s : Sweep K} {l : Lattice} {d : Direction} {h i j k m n : ℕ} {a b e : List K} → Moves s l d h i j k a b → Moves s l d j k m n b e → Moves s l d h i m n a e
moves_on f g = record { come = λ c xs suits come. g.come c xs suits (f.come c xs suits come) }

module _ (row : LatticeRow) where
  abbrev l : Lattice
  l = row.lattice

  abbrev j : ℕ
  j = row.j

  abbrev y : ℕ
  y = row.lattice.top + row.j

  -- n points from column i on, every other one, that all have points on both sides, or one point
  abbrev Points : ℕ → ℕ → Type 0
  Points i n = ((0 < i) × (2 * n ≤ l.columns - i)) ⊎ ((n ≡ 1) × (i < l.columns))

  points_in : (i n : ℕ) → Points i n → (k : ℕ) → k < n → i + 2 * k < l.columns
  points_in i n points k h = grind arith

  back_is : (i n : ℕ) → Points i n → (back : ℕ) → back ≡ cond (ltb 0 i) l.across 0 → (k : ℕ) → k < n → 0 < i + 2 * k → back ≡ l.across
  back_is i n points back e k h some = grind (arith, nat_tests)

  forth_is : (i n : ℕ) → Points i n → (forth : ℕ) → forth ≡ cond (ltb (i + 1) l.columns) l.across 0 → (k : ℕ) → k < n → i + 2 * k + 1 < l.columns → forth ≡ l.across
  forth_is i n points forth e k h some = grind (arith, nat_tests)

  none_is : (i n : ℕ) → Points i n → (forth : ℕ) → forth ≡ cond (ltb (i + 1) l.columns) l.across 0 → (k : ℕ) → k < n → l.columns ≤ i + 2 * k + 1 → forth ≡ 0
  none_is i n points forth e k h none = grind (arith, nat_tests)

  module _ {K : Type 0} {s : Sweep K} {old new : List K} where
    -- a row of a column sub-pass
    pub column_moves : {n back forth : ℕ} {inside : back ≤ l.first + j * l.down} → has_parity s.odd y ≡ true → n ≡ l.columns → back ≡ cond (ltb 0 j) l.down 0 → forth ≡ cond (ltb (j + 1) l.rows) l.down 0 →
        Carries s (record { resolution = s.resolution; direction = Column; first = record { x = l.left; y = y }; step = 1 }) n
        (record { here = l.first + j * l.down; back = back; forth = forth; stride = l.across; inside = inside }) old new →
        PastRow s row Column 0 old new
    column_moves {n = n} {back = back} {forth = forth} {inside = inside} par en eb ef carries = record {
      come = λ c xs suits come.
          come_jump s l c xs suits Column new (n * 1 + l.left) y (l.left + 0) (l.top + (j + 1)) (λ q i t. earlier_next (n * 1 + l.left) (l.left + 0) y (l.top + (j + 1)) q (omega arith) (omega arith) (λ e. omega arith))
          (carries.come c xs suits.outside suits.long (column_part c s.resolution l suits.fine suits.is s.odd n j back forth inside row.inside par en eb ef)
          (subst (λ (x : ℕ). ComeTo s c Column xs x y old) (let e : l.left + 0 ≡ l.left = omega arith in e) come));
    }

    -- points of a row in a row sub-pass
    pub row_moves : (i n : ℕ) {len back forth : ℕ} {inside : back ≤ l.first + j * l.down + i * l.across} → Points i n → has_parity s.odd (l.left + i) ≡ true →
        back ≡ cond (ltb 0 i) l.across 0 → forth ≡ cond (ltb (i + 1) l.columns) l.across 0 → len ≡ n →
        Carries s (record { resolution = s.resolution; direction = Row; first = record { x = l.left + i; y = y }; step = 2 }) len
        (record { here = l.first + j * l.down + i * l.across; back = back; forth = forth; stride = 2 * l.across; inside = inside }) old new →
        InRow s row i (i + 2 * n) old new
    row_moves i n {len} {back} {forth} {inside} points par eb ef size carries =
        let run : Run = record { resolution = s.resolution; direction = Row; first = record { x = l.left + i; y = y }; step = 2 } in
        let track : Track = record { here = l.first + j * l.down + i * l.across; back = back; forth = forth; stride = 2 * l.across; inside = inside } in
        record {
          come = λ c xs suits come.
              subst (λ (x : ℕ). ComeTo s c Row xs x y new) (let e : len * 2 + (l.left + i) ≡ l.left + (i + 2 * n) = omega arith in e)
              (carries.come c xs suits.outside suits.long (subst (λ (a : ℕ). PartOf c s.odd run a track) (sym size) (row_part c s.resolution l suits.fine suits.is s.odd n j i back forth inside row.inside (points_in i n points) par (back_is i n points back eb) (forth_is i n points forth ef))) come);
        }

  module _ {K : Type 0} {s : Sweep K} {now : List K} where
    -- moving on past columns without points of the parity, and to the next row
    pub row_skips : (i k : ℕ) → ((q : Point) → l.left ≤ q.x → q.x < l.left + l.columns → has_parity s.odd q.x ≡ true → ltb q.x (l.left + k) ≡ ltb q.x (l.left + i)) → InRow s row i k now now
    row_skips i k same = record { come = λ c xs suits come. come_jump s l c xs suits Row now (l.left + i) y (l.left + k) y (λ q w t. earlier_apart (l.left + i) (l.left + k) y q (λ h. same q w.left w.right t)) come }

    pub row_ends : (i : ℕ) → ((q : Point) → q.x < l.left + l.columns → has_parity s.odd q.x ≡ true → q.x < l.left + i) → PastRow s row Row i now now
    row_ends i all = record {
      come = λ c xs suits come. come_jump s l c xs suits Row now (l.left + i) y (l.left + 0) (l.top + (j + 1)) (λ q w t. earlier_next (l.left + i) (l.left + 0) y (l.top + (j + 1)) q (omega arith) (omega arith) (λ h. all q w.right t)) come;
    }

    -- a row of the other parity in a column sub-pass
    pub column_skips : has_parity s.odd y ≡ false → PastRow s row Column 0 now now
    column_skips par = record {
      come = λ c xs suits come. come_jump s l c xs suits Column now (l.left + 0) y (l.left + 0) (l.top + (j + 1))
          (λ q w t. earlier_next (l.left + 0) (l.left + 0) y (l.top + (j + 1)) q (omega arith) (omega arith) (λ h. grind arith)) come;
    }

    -- a row sub-pass where the row's first column has the other parity, or the row has no column
    pub first_none : {b : Bool} → b ≡ has_parity s.odd l.left → ((b ≡ true) × (l.columns ≤ 0)) ⊎ (b ≡ false) → InRow s row 0 (inner s.odd l) now now
    first_none e h = row_skips 0 (inner s.odd l) (λ q lo hi t. grind (arith, nat_tests))

    pub last_other : (inner_end s.odd l + 1 ≡ l.columns → ⊥) → PastRow s row Row (inner_end s.odd l) now now
    last_other ne = row_ends (inner_end s.odd l) (λ q hi t. grind arith)

  -- the three stretches of a row in a row sub-pass
  module _ {K : Type 0} {s : Sweep K} {old new : List K} where
    pub first_done : has_parity s.odd l.left ≡ true → InRow s row 0 2 old new → InRow s row 0 (inner s.odd l) old new
    first_done par f = subst (λ (k : ℕ). InRow s row 0 k old new) (sym (cond-true {A = ℕ} (has_parity s.odd l.left) 2 1 par)) f

    pub middle_done : {i n : ℕ} → i ≡ inner s.odd l → n ≡ inner_count s.odd l → InRow s row i (i + 2 * n) old new → InRow s row (inner s.odd l) (inner_end s.odd l) old new
    middle_done {n = n} ei en f = subst (λ (m : ℕ). InRow s row (inner s.odd l) (inner s.odd l + 2 * m) old new) en (subst (λ (i : ℕ). InRow s row i (i + 2 * n) old new) ei f)

    pub last_done : (i : ℕ) → i ≡ inner_end s.odd l → i + 1 ≡ l.columns → InRow s row i (i + 2) old new → PastRow s row Row (inner_end s.odd l) old new
    last_done i ei last f = subst (λ (k : ℕ). PastRow s row Row k old new) ei (moves_on f (row_ends (i + 2) (λ q hi t. omega arith)))

  -- the places of a row in a column sub-pass
  module _ (size : ℕ) (small : Small row.lattice size) where
    pub column_back : (back : ℕ) → back ≡ cond (ltb 0 j) l.down 0 → back ≤ l.first + j * l.down
    column_back back e = let h = λ (some : 0 < j). le-mul_of_pos_right l.down some in grind (arith, nat_tests)

    pub column_within : (forth : ℕ) → forth ≡ cond (ltb (j + 1) l.rows) l.down 0 → (k : ℕ) → k < l.columns → l.first + j * l.down + k * l.across + forth < size
    column_within forth e k hk = let here = small.within k j hk row.inside in let below = small.within k (j + 1) hk in grind (arith, nat_tests)

    pub row_back : (i back : ℕ) → back ≡ cond (ltb 0 i) l.across 0 → back ≤ l.first + j * l.down + i * l.across
    row_back i back e = let h = λ (some : 0 < i). le-mul_of_pos_right l.across some in grind (arith, nat_tests)

    pub row_within : (i n forth : ℕ) → Points i n → forth ≡ cond (ltb (i + 1) l.columns) l.across 0 → (k : ℕ) → k < n → l.first + j * l.down + i * l.across + k * (2 * l.across) + forth < size
    row_within i n forth points e k hk =
        let here = small.within (i + 2 * k) j (points_in i n points k hk) row.inside in
        let next = λ (h : i + 2 * k + 1 < l.columns). small.within (i + 2 * k + 1) j h row.inside in
        let by = forth_is i n points forth e k hk in
        let none = λ (h : l.columns ≤ i + 2 * k + 1). none_is i n points forth e k hk h in
        grind arith

module _ {K : Type 0} {s : Sweep K} {l : Lattice} {d : Direction} where
  -- every row
  pub rows_all : {j : ℕ} {old new : List K} → l.rows ≤ j → Moves s l d 0 0 0 j old new → Passes s l d old new
  rows_all {j} {old} {new} h moves = record {
    is = λ c suits.
        let r = s.resolution in
        let stands = λ (o : Point) (i : IsPoint c r o). in_lattice c r l suits.fine suits.is o i in
        come_all s.meaning.kind.nothing (op s.meaning s.join) (amount s.meaning s.odd) (pass c s.broken r d s.odd) old (λ k. on_point (earlier (l.left + 0) (l.top + j)) (point_of c r k)) new
        (λ k lt t. let o = target_point c r d s.odd k t in let i = stands o.point o.is in ap (on_point (earlier (l.left + 0) (l.top + j))) o.at ∙ earlier_above (l.left + 0) (l.top + j) o.point (omega arith))
        (moves.come c old suits
        (come_none s.meaning.kind.nothing (op s.meaning s.join) (amount s.meaning s.odd) (pass c s.broken r d s.odd) old (λ k. on_point (earlier (l.left + 0) (l.top + 0)) (point_of c r k))
        (λ k t. let o = target_point c r d s.odd k t in let i = stands o.point o.is in ap (on_point (earlier (l.left + 0) (l.top + 0))) o.at ∙ earlier_below (l.left + 0) (l.top + 0) o.point (omega arith) (omega arith))));
  }

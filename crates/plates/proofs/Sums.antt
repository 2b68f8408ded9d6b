-- Sums over the numbers below a bound, and lattices of few points. Assumes nothing.
use Rattle.std.proofs.Common.{◌≡◌, ℕ, zero, suc, ◌+◌, ◌*◌, ◌<◌, ◌≤◌, Bool, true, false, leb, List, map, length, get_or, refl, sym, ap, ◌∙◌, inl, inr, zero-add, add-one, suc-mul, arith, slice_index}
use Rattle.std.specs.List.{range_with_len, enumerate_from, sum_by, count_by}
use Rattle.std.proofs.lemmas.List.{map-id}
use Rattle.std.proofs.lemmas.List.FromFn.{sum_by-map-range_with_len_more, fill_by_all, length-enumerate_from, get_or-enumerate_from}
use Rattle.std.proofs.lemmas.Nat.{mul-le}
use Rattle.std.proofs.lemmas.Bool.{cases_lt, cond-false, lt-leb}
use Rattle.geometry.specs.declared.direction.Direction.{Direction}
use Rattle.geometry.specs.declared.direction.Direction.TheVariants.{Row, Column}
use Rattle.geometry.specs.declared.frame.Frame.{Frame}
use Rattle.geometry.specs.declared.lattice.Lattice.{Lattice}
use Rattle.geometry.specs.Frames.{corners_of}
use Rattle.geometry.specs.Places.{lattice_of, plane_length}
use Rattle.lifting.specs.Passes.{Breaks}
use Rattle.lifting.proofs.Works.{lattice_small}
use Rattle.plates.specs.Tallies.{weigh, total, count, gap_at, broken_from, broken_rows, starts}

-- a sum over a list that is made from n numbers, from a on
pub total_of : {X : Type 0} (g : X → ℕ) (f : ℕ → X) (a n : ℕ) → sum_by g (map f (range_with_len a n)) ≡ total (λ k. g (f (a + k))) n
unfolding total
total_of g f a zero = refl
total_of g f a (suc n) =
    ap (λ (m : ℕ). sum_by g (map f (range_with_len a m))) (sym (add-one n)) ∙ sum_by-map-range_with_len_more g f a n (a + n) refl
    ∙ ap (λ (s : ℕ). s + g (f (a + n))) (total_of g f a n)

-- how many of n numbers, from a on, pass a test
pub count_of : (p : ℕ → Bool) (a n : ℕ) → count_by p (range_with_len a n) ≡ count (λ k. p (a + k)) n
count_of p a n = ap (count_by p) (sym (map-id (range_with_len a n))) ∙ total_of (λ k. weigh (p k)) (λ k. k) a n

-- how many elements of a list, each with its place, pass a test
pub count_placed : (p : ℕ × ℕ → Bool) (ns : List ℕ) → count_by p (enumerate_from 0 ns) ≡ count (λ k. p (k, slice_index ns k)) (length ns)
count_placed p ns =
    let f : ℕ → ℕ × ℕ = λ k. (k, slice_index ns k) in
    let at : (k : ℕ) → k < length ns → get_or (enumerate_from 0 ns) k (0, 0) ≡ f k = λ k h. get_or-enumerate_from 0 ns k (0, 0) h ∙ ap (λ (j : ℕ). let q : ℕ × ℕ = (j, get_or ns k 0) in q) (zero-add k) in
    ap (count_by p) (fill_by_all f (enumerate_from 0 ns) (length ns) (0, 0) (length-enumerate_from 0 ns) at) ∙ total_of (λ q. weigh (p q)) f 0 (length ns)
    ∙ ap (λ (h : ℕ → ℕ). total (λ k. weigh (p (f (h k)))) (length ns)) (λ i k. zero-add k i)

-- sums of small numbers
total_few : (f : ℕ → ℕ) (m : ℕ) → ((k : ℕ) → f k ≤ m) → (n : ℕ) → total f n ≤ n * m
unfolding total
total_few f m few zero = omega arith
total_few f m few (suc n) = let less = total_few f m few n in let more = few n in let e = suc-mul n m in omega (arith, less, more, e)

one : (b : Bool) → weigh b ≤ 1
one true = omega arith
one false = omega arith

pub rows_few : (broken : Breaks) (r : ℕ) (d : Direction) (x y w h : ℕ) → w ≤ 512 → broken_rows broken r d x y w h ≤ h * 512
rows_few broken r d x y w h narrow =
    total_few (λ j. broken_from broken r d x (y + j) w) 512 (λ j. let few = total_few (λ k. weigh (broken (gap_at r d (x + k) (y + j)))) 1 (λ k. one _) w in omega (arith, few, narrow)) h

pub product_few : (m n : ℕ) → m ≤ 512 → n ≤ 512 → m * n ≤ 262144
product_few m n p q = mul-le m n 512 512 p q

-- a lattice of at most 512 columns and rows, inside the limit
pub record Few (l : Lattice) : Type 0 where
  pub columns : l.columns ≤ 512
  pub rows : l.rows ≤ 512
  pub right : l.left + l.columns ≤ 1073741824
  pub bottom : l.top + l.rows ≤ 1073741824

pub lattice_few : (f : Frame) (r : ℕ) (l : Lattice) → l ≡ lattice_of (corners_of f) r → Few l
lattice_few f r l is =
    elim (cases_lt (corners_of f).levels r) [
      | inl above ↦
          let e : l ≡ record { left = 0; top = 0; columns = 0; rows = 0; first = 0; across = 0; down = 0 } =
          is ∙ cond-false (leb r (corners_of f).levels) _ (record { left = 0; top = 0; columns = 0; rows = 0; first = 0; across = 0; down = 0 }) (lt-leb r (corners_of f).levels above) in
          let left : l.left ≡ 0 = ap (λ (v : Lattice). v.left) e in
          let top : l.top ≡ 0 = ap (λ (v : Lattice). v.top) e in
          let columns : l.columns ≡ 0 = ap (λ (v : Lattice). v.columns) e in
          let rows : l.rows ≡ 0 = ap (λ (v : Lattice). v.rows) e in
          record { columns = omega arith; rows = omega arith; right = omega arith; bottom = omega arith }
      | inr fine ↦
          let s = lattice_small f r (plane_length (corners_of f)) l fine is refl in
          record { columns = s.columns; rows = s.rows; right = s.right; bottom = s.bottom }
    ]

pub record Starts (l : Lattice) (s : ℕ × ℕ) : Type 0 where
  pub columns : s.0 ≤ l.columns
  pub rows : s.1 ≤ l.rows

starts_of : (l : Lattice) (d : Direction) → Starts l (starts l d)
starts_of l Row = record { columns = omega arith; rows = omega arith }
starts_of l Column = record { columns = omega arith; rows = omega arith }

pub starts_within : (l : Lattice) (d : Direction) (s : ℕ × ℕ) → s ≡ starts l d → Starts l s
starts_within l d s e = rw e (starts_of l d)

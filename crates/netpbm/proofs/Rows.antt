-- The rows of a picture as the parts of one length that its samples are cut into. Assumes nothing.
use Rattle.std.proofs.Common.{◌≡◌, ℕ, zero, suc, ◌+◌, ◌-◌, ◌*◌, ◌/◌, ◌<◌, ◌≤◌, List, length, get_or, Some, None, Option, take, drop, sym, refl, ap, ◌∙◌, zero-mul, le-div_iff_mul-le, arith, length-append, length-drop}
use Rattle.std.specs.Borrow.{Bor}
use Rattle.std.specs.Iterator.{Yields, AlwaysYields}
use Rattle.std.specs.Iterator.Adapters.{take_source, take_count, take_steps}
use Rattle.std.specs.Simd.{first_chunks}
use Rattle.std.specs.Slice.Iter.{chunks_exact_rest, chunks_exact_size, chunks_exact_steps}
use Rattle.std.specs.declared.slice.ChunksExact.{ChunksExact}
use Rattle.std.specs.declared.iter.Take.{Take}
use Rattle.std.proofs.Math.Seq.{take-append_seam, drop-append_seam}
use Rattle.std.proofs.lemmas.Iterator.{YieldsList, YieldsList-from_take}
use Rattle.std.proofs.lemmas.Iterator.Consumers.{YieldsList-at, YieldsList-turn, YieldsList-end}
use Rattle.std.proofs.lemmas.List.{drop-drop, length-take-le, get_or-take, drop-take, take-take}
use Rattle.std.proofs.lemmas.Nat.{div-add-mod', mod_below}

length_chunks : (n k : ℕ) (xs : List ℕ) → length (first_chunks n k xs) ≡ k
length_chunks n zero xs = refl
length_chunks n (suc k) xs = ap suc (length_chunks n k (drop n xs))

chunk_at : (n k : ℕ) (xs : List ℕ) (i : ℕ) (d : List ℕ) → i < k → get_or (first_chunks n k xs) i d ≡ take n (drop (i * n) xs)
chunk_at n zero xs i d l = absurd (omega arith)
chunk_at n (suc k) xs zero d l = ap (λ q. take n (drop q xs)) (sym (zero-mul n))
chunk_at n (suc k) xs (suc i) d l = chunk_at n k (drop n xs) i d (omega arith) ∙ ap (take n) (drop-drop (i * n) n xs ∙ ap (λ q. drop q xs) (omega arith))

-- the parts of n elements that are left, in order
chunks_yield : (n k : ℕ) (xs : List ℕ) (s : ChunksExact ℕ) → 0 < n → chunks_exact_size s ≡ n → chunks_exact_rest s ≡ xs → k * n ≤ length xs → length xs < k * n + n → AlwaysYields chunks_exact_steps (λ x. x.now) s (first_chunks n k xs)
chunks_yield n zero xs s pos size rest low high = λ x j h. omega (arith, ap length rest, ap length h.1.0, length-append x.now (chunks_exact_rest j), h.1.1)
chunks_yield n (suc k) xs s pos size rest low high = (
  λ j h. omega (arith, ap length rest, h.1.0),
  λ x j h.
      let e = sym rest ∙ h.1.0 in
      let l = h.1.1 ∙ size in
      let front : x.now ≡ take n xs = sym (take-append_seam x.now (chunks_exact_rest j)) ∙ (λ i. take (l i) (sym e i)) in
      let back : chunks_exact_rest j ≡ drop n xs = sym (drop-append_seam x.now (chunks_exact_rest j)) ∙ (λ i. drop (l i) (sym e i)) in
      let d = length-drop n xs in
      (front, chunks_yield n k (drop n xs) j pos (h.0 ∙ size) back (omega arith) (omega arith)),
)

-- the first rows of n elements, h of them at most
abbrev rows_of : ℕ → ℕ → List ℕ → List (List ℕ)
rows_of n h xs = take h (first_chunks n (length xs / n) xs)

rows_length : (n h : ℕ) (xs : List ℕ) → 0 < n → h * n ≤ length xs → length (rows_of n h xs) ≡ h
rows_length n h xs pos fit =
    let k : ℕ = length xs / n in
    let all = length_chunks n k xs in
    let l : h ≤ k = (le-div_iff_mul-le {k = n} {x = h} {y = length xs} pos).1 fit in
    length-take-le h (first_chunks n k xs) (omega arith)

row_at : (n h : ℕ) (xs : List ℕ) (i : ℕ) (e : List ℕ) → 0 < n → h * n ≤ length xs → i < h → get_or (rows_of n h xs) i e ≡ take n (drop (i * n) xs)
row_at n h xs i e pos fit l =
    let k : ℕ = length xs / n in
    let m : h ≤ k = (le-div_iff_mul-le {k = n} {x = h} {y = length xs} pos).1 fit in
    get_or-take h (first_chunks n k xs) i e l ∙ chunk_at n k xs i e (omega arith)

-- the row of a turn, after i others
pub record IsRow (n h : ℕ) (xs : List ℕ) (i : ℕ) (row : List ℕ) : Type 0 where
  pub below : i < h
  pub is : row ≡ take n (drop (i * n) xs)
  pub long : length row ≡ n

-- the turns of a loop over those rows: `ys` are the rows so far
module _ (n h : ℕ) (xs : List ℕ) (r : ChunksExact ℕ) (t it : Take (ChunksExact ℕ)) (pos : 0 < n) (size : chunks_exact_size r ≡ n) (rest : chunks_exact_rest r ≡ xs) (source : take_source t ≡ r) (count : take_count t ≡ h) (into : it ≡ t) (fit : h * n ≤ length xs) where
  abbrev Steps : Take (ChunksExact ℕ) → Option (Bor (List ℕ)) → Take (ChunksExact ℕ) → Type 0
  Steps = take_steps chunks_exact_steps

  rows_yield : YieldsList Steps (λ x. x.now) it (rows_of n h xs)
  rows_yield =
      let d = div-add-mod' (length xs) n in
      let m = mod_below (length xs) n pos in
      let all : YieldsList chunks_exact_steps (λ x. x.now) r (first_chunks n (length xs / n) xs) = record { runs = chunks_yield n (length xs / n) xs r pos size rest (omega arith) (omega arith) } in
      YieldsList-at into (YieldsList-from_take h (YieldsList-at source all) count)

  module _ (ys : List (Bor (List ℕ))) (now : Take (ChunksExact ℕ)) (so_far : Yields Steps it ys now) (next : Option (Bor (List ℕ))) (then : Take (ChunksExact ℕ)) where
    pub row_turn : (x : Bor (List ℕ)) → next ≡ Some x → Steps now next then → IsRow n h xs (length ys) x.now
    row_turn x e step =
        let turn = YieldsList-turn rows_yield ys now so_far next then x e step in
        let long = rows_length n h xs pos fit in
        let below : length ys < h = omega arith in
        let is = turn.1 ∙ row_at n h xs (length ys) x.now pos fit below in
        let m : length ys * n + n ≤ length xs = grind arith in
        let d = length-drop (length ys * n) xs in
        record { below = below; is = is; long = ap length is ∙ length-take-le n (drop (length ys * n) xs) (omega arith) }

    pub row_end : next ≡ None → Steps now next then → length ys ≡ h
    row_end e step = (YieldsList-end rows_yield ys now so_far next then e step).1 ∙ rows_length n h xs pos fit

-- a part of a row, where the rows begin after b elements
pub row_part : (n a b x w : ℕ) (xs : List ℕ) → x + w ≤ n → take w (drop x (take n (drop a (drop b xs)))) ≡ take w (drop (b + a + x) xs)
row_part n a b x w xs l =
    let e : n ≡ x + (n - x) = omega arith in
    ap (take w) (ap (λ q. drop x (take q (drop a (drop b xs)))) e ∙ drop-take x (n - x) (drop a (drop b xs))) ∙ take-take w (n - x) _ (omega arith)
    ∙ ap (take w) (drop-drop x a (drop b xs) ∙ drop-drop (a + x) b xs ∙ ap (λ q. drop q xs) (omega arith))

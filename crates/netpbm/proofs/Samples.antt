-- Samples and their bytes. Assumes nothing.
use Rattle.std.proofs.Common.{◌≡◌, ℕ, zero, suc, ◌+◌, ◌*◌, ◌<◌, ◌≤◌, true, ◌&&◌, leb, List, [], ◌∷◌, length, get_or, map, sym, refl, ap, arith}
use Rattle.std.specs.List.{All, list_all}
use Rattle.std.specs.Simd.{first_chunks}
use Rattle.std.proofs.lemmas.List.Elements.{All-from_get_or}
use Rattle.std.proofs.lemmas.Bool.{leb-true, and_parts}
use Rattle.netpbm.specs.Pictures.{within}
use Rattle.netpbm.specs.Parses.{pairs}

pub within_at : (m : ℕ) (xs : List ℕ) (i : ℕ) → within m xs ≡ true → i < length xs → get_or xs i 0 ≤ m
within_at m [] i h l = absurd (omega arith)
within_at m (x ∷ xs) zero h l = leb-true x m (and_parts (leb x m) (within m xs) h).0
within_at m (x ∷ xs) (suc i) h l = within_at m xs i (and_parts (leb x m) (within m xs) h).1 (omega arith)

pub within_below : (m n : ℕ) (xs : List ℕ) → within m xs ≡ true → m < n → All (λ x. x < n) xs
within_below m n xs h l = All-from_get_or (λ x. x < n) xs 0 (λ i k. omega (arith, within_at m xs i h k))

pub within_all : (m : ℕ) (xs : List ℕ) → list_all (λ x. leb x m) xs ≡ within m xs
within_all m [] = refl
within_all m (x ∷ xs) = ap (λ t. leb x m && t) (within_all m xs)

pub pairs_short : (bs : List ℕ) → length bs < 2 → pairs bs ≡ []
pairs_short [] h = refl
pairs_short (a ∷ []) h = refl
pairs_short (a ∷ b ∷ bs) h = absurd (omega arith)

-- a sample of two bytes
abbrev pub pair_value : List ℕ → ℕ
pair_value p = get_or p 0 0 * 256 + get_or p 1 0

pub pairs_chunks : (k : ℕ) (bs : List ℕ) → k * 2 ≤ length bs → length bs < k * 2 + 2 → map pair_value (first_chunks 2 k bs) ≡ pairs bs
pairs_chunks zero bs h l = sym (pairs_short bs (omega arith))
pairs_chunks (suc k) [] h l = absurd (omega arith)
pairs_chunks (suc k) (a ∷ []) h l = absurd (omega arith)
pairs_chunks (suc k) (a ∷ b ∷ bs) h l = ap (λ q. (a * 256 + b) ∷ q) (pairs_chunks k bs (omega arith) (omega arith))

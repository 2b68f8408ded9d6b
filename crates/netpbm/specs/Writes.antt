-- The bytes of a picture. Assumes nothing.
use Rattle.std.specs.Prelude.{ℕ, ◌/◌, ◌%◌, cond, List, [], ◌∷◌, ◌++◌, decimal, nat_lt}
use Rattle.std.specs.List.{flat_map}
use Rattle.netpbm.specs.Pictures.{Picture}

-- a sample of two bytes, the most significant first
abbrev pub pair_bytes : ℕ → List ℕ
pair_bytes x = x / 256 ∷ x % 256 ∷ []

abbrev pub sample_bytes : ℕ → List ℕ → List ℕ
sample_bytes m xs = cond (nat_lt m 256) xs (flat_map pair_bytes xs)

-- `P5`, LF, the width, a blank, the height, LF, the maxval, LF
abbrev pub header_bytes : Picture → List ℕ
header_bytes p = 80 ∷ 53 ∷ 10 ∷ (decimal p.width ++ (32 ∷ (decimal p.height ++ (10 ∷ (decimal p.maxval ++ (10 ∷ []))))))

unfoldable pub written : Picture → List ℕ
written p = header_bytes p ++ sample_bytes p.maxval p.samples

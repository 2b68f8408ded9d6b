-- A whole PGM file. Assumes nothing.
use Rattle.std.specs.Prelude.{◌≡◌, ℕ, ◌+◌, ◌*◌, cond, not, ◌||◌, ◌⊎◌, List, [], ◌∷◌, length, ◌==◌, nat_lt}
use Rattle.netpbm.specs.Answers.{Answer, accepted, refused, refuse_if}
use Rattle.netpbm.specs.Faults.{cut_short, zero_size, bad_maxval, above_maxval, left_over, no_memory}
use Rattle.netpbm.specs.Pictures.{Picture, within}
use Rattle.netpbm.specs.Reads.{Read, got, fault, and_then, stop_if, magic, numeral, one_white}
use Rattle.netpbm.specs.declared.header.Header.{Header}

-- the header, whose numbers are read by `num`
abbrev pub header_by : (List ℕ → Read ℕ) → List ℕ → Read Header
header_by num bs =
    and_then (magic bs) (λ _ bs.
    and_then (num bs) (λ w bs.
    and_then (num bs) (λ h bs.
    stop_if (w == 0 || h == 0) zero_size
    (and_then (num bs) (λ m bs.
    stop_if (m == 0 || nat_lt 65535 m) bad_maxval
    (and_then (one_white bs) (λ _ bs. got (record { width = w; height = h; maxval = m }) bs)))))))

-- how many bytes a sample takes
abbrev pub sample_size : ℕ → ℕ
sample_size m = cond (nat_lt m 256) 1 2

-- samples of two bytes each, the most significant first
abbrev pub pairs : List ℕ → List ℕ
pairs [] = []
pairs (a ∷ []) = []
pairs (a ∷ b ∷ bs) = (a * 256 + b) ∷ pairs bs

abbrev pub values : ℕ → List ℕ → List ℕ
values m bs = cond (nat_lt m 256) bs (pairs bs)

-- the samples after a header
abbrev pub plate : Header → List ℕ → Answer Picture
plate t bs =
    refuse_if (nat_lt (length bs) (t.width * t.height * sample_size t.maxval)) cut_short
    (refuse_if (nat_lt (t.width * t.height * sample_size t.maxval) (length bs)) left_over
    (refuse_if (not (within t.maxval (values t.maxval bs))) above_maxval
    (accepted (record { width = t.width; height = t.height; maxval = t.maxval; samples = values t.maxval bs }))))

abbrev pub plate_after : Read Header → Answer Picture
plate_after (got t bs) = plate t bs
plate_after (fault why) = refused why

-- what the bytes of a file say
unfoldable pub parsed : List ℕ → Answer Picture
parsed bs = plate_after (header_by numeral bs)

-- only a file whose header and length are right wants memory
abbrev pub WantsMemory : Answer Picture → Type 0
WantsMemory (accepted p) = Unit {0}
WantsMemory (refused why) = why ≡ above_maxval

-- an answer that is the right one, or that there is no memory for it
abbrev pub UnlessMemory : Answer Picture → Answer Picture → Type 0
UnlessMemory given right = (given ≡ right) ⊎ ((given ≡ refused no_memory) × WantsMemory right)

-- A picture: its sizes, its maxval and its samples row by row. Assumes nothing.
use Rattle.std.specs.Prelude.{ℕ, ◌*◌, Bool, true, not, ◌&&◌, ◌||◌, List, [], ◌∷◌, length, ◌==◌, nat_le, nat_lt}
use Rattle.netpbm.specs.Answers.{Answer, accepted, refuse_if}
use Rattle.netpbm.specs.Faults.{cut_short, zero_size, bad_maxval, above_maxval, left_over}

pub record Picture : Type 0 where
  pub width : ℕ
  pub height : ℕ
  pub maxval : ℕ
  pub samples : List ℕ

-- whether each sample is at most m
abbrev pub within : ℕ → List ℕ → Bool
within m [] = true
within m (x ∷ xs) = nat_le x m && within m xs

-- the picture of these parts, or the first fault that they have
abbrev pub raster_answer : ℕ → ℕ → ℕ → List ℕ → Answer Picture
raster_answer w h m xs =
    refuse_if (w == 0 || h == 0) zero_size
    (refuse_if (m == 0) bad_maxval
    (refuse_if (nat_lt (length xs) (w * h)) cut_short
    (refuse_if (nat_lt (w * h) (length xs)) left_over
    (refuse_if (not (within m xs)) above_maxval
    (accepted (record { width = w; height = h; maxval = m; samples = xs }))))))

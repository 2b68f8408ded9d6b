-- What the inner calls of the reader answer, as reads. Assumes nothing.
use Rattle.std.specs.Prelude.{◌≡◌, ℕ, ◌-◌, ◌^◌, ◌<◌, min, Bool, not, List, [], ◌∷◌, length, Ok, Err, Result, slice_index}
use Rattle.std.specs.Borrow.{Bor}
use Rattle.netpbm.specs.Faults.{cut_short, fault_number}
use Rattle.netpbm.specs.Reads.{Read, got, fault, stop_if, numeral}
use Rattle.netpbm.specs.declared.fault.Fault.{Fault}

-- a value with what follows it
abbrev pub seen : {X : Type 0} → Result (X × Bor (List ℕ)) Fault → Read X
seen (Ok p) = got p.0 p.1.now
seen (Err f) = fault (fault_number f)

-- only what follows
abbrev pub seen_rest : Result (Bor (List ℕ)) Fault → Read (Unit {0})
seen_rest (Ok r) = got tt r.now
seen_rest (Err f) = fault (fault_number f)

-- the first byte left out, where it passed its test
abbrev pub first_if : Bool → ℕ → List ℕ → Read (Unit {0})
first_if passed why [] = fault cut_short
first_if passed why (b ∷ bs) = stop_if (not passed) why (got tt bs)

-- an answer by a test of the first byte: `tests` says what the test may answer
pub record TakesIf (tests : ℕ → Bool → Type 0) (why : ℕ) (bs : List ℕ) (r : Read (Unit {0})) : Type 0 where
  pub passed : Bool
  pub tested : 0 < length bs → tests (slice_index bs 0) passed
  pub is : r ≡ first_if passed why bs

-- a number, or the largest usize where it is larger
abbrev pub capped : ℕ → ℕ
capped n = min n (2 ^ 64 - 1)

abbrev pub capped_read : Read ℕ → Read ℕ
capped_read (got n bs) = got (capped n) bs
capped_read (fault why) = fault why

abbrev pub capped_numeral : List ℕ → Read ℕ
capped_numeral bs = capped_read (numeral bs)

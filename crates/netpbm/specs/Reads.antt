-- Readers: an item off the front of a list of bytes, or a fault. Assumes nothing.
use Rattle.std.specs.Prelude.{ℕ, ◌+◌, ◌-◌, ◌*◌, Bool, true, false, cond, not, ◌&&◌, ◌||◌, List, [], ◌∷◌, ◌==◌, nat_le}
use Rattle.netpbm.specs.Faults.{not_pgm, cut_short, no_number}

-- a value with the bytes that follow it, or the number of a fault
pub data Read (X : Type 0) : Type 0 where
  got : X → List ℕ → Read X
  fault : ℕ → Read X

-- what is read next, unless there was a fault
abbrev pub and_then : {X Y : Type 0} → Read X → (X → List ℕ → Read Y) → Read Y
and_then (got x bs) f = f x bs
and_then (fault why) f = fault why

abbrev pub stop_if : {X : Type 0} → Bool → ℕ → Read X → Read X
stop_if stop why next = cond stop (fault why) next

-- blank, and tab, LF, VT, FF and CR, which are 9 to 13
abbrev pub white : ℕ → Bool
white b = b == 32 || (nat_le 9 b && nat_le b 13)

-- white space, or the `#` of a comment
abbrev pub opens : ℕ → Bool
opens b = white b || b == 35

-- LF or CR
abbrev pub line_end : ℕ → Bool
line_end b = b == 10 || b == 13

abbrev pub digit : ℕ → Bool
digit b = nat_le 48 b && nat_le b 57

-- the byte c
unfoldable pub byte : ℕ → List ℕ → Read (Unit {0})
byte c [] = fault cut_short
byte c (b ∷ bs) = stop_if (not (b == c)) not_pgm (got tt bs)

-- `P5`
unfoldable pub magic : List ℕ → Read (Unit {0})
magic bs = and_then (byte 80 bs) (λ _ bs. byte 53 bs)

-- what follows white space and comments; a comment goes from `#` to the end of its line, and the flag says that one is under way
abbrev pub skipped : Bool → List ℕ → List ℕ
skipped comment [] = []
skipped true (b ∷ bs) = cond (line_end b) (skipped false bs) (skipped true bs)
skipped false (b ∷ bs) = cond (white b) (skipped false bs) (cond (b == 35) (skipped true bs) (b ∷ bs))

-- white space, at least one character, in which comments may stand
unfoldable pub gap : List ℕ → Read (Unit {0})
gap [] = fault cut_short
gap (b ∷ bs) = stop_if (not (opens b)) no_number (got tt (skipped false (b ∷ bs)))

-- the number of the digits at the front, after digits that made n
abbrev pub value_on : ℕ → List ℕ → ℕ
value_on n [] = n
value_on n (b ∷ bs) = cond (digit b) (value_on (n * 10 + (b - 48)) bs) n

abbrev pub after_digits : List ℕ → List ℕ
after_digits [] = []
after_digits (b ∷ bs) = cond (digit b) (after_digits bs) (b ∷ bs)

-- decimal digits, at least one
unfoldable pub digits : List ℕ → Read ℕ
digits [] = fault cut_short
digits (b ∷ bs) = stop_if (not (digit b)) no_number (got (value_on 0 (b ∷ bs)) (after_digits (b ∷ bs)))

-- a number after white space
unfoldable pub numeral : List ℕ → Read ℕ
numeral bs = and_then (gap bs) (λ _ bs. digits bs)

-- exactly one white space character
unfoldable pub one_white : List ℕ → Read (Unit {0})
one_white [] = fault cut_short
one_white (b ∷ bs) = stop_if (not (white b)) no_number (got tt bs)

-- Words, and the numbers that they write. Assumes nothing.
use Rattle.std.specs.Prelude.{◌≡◌, ℕ, ◌^◌, ◌<◌, List, [], ℤ, FitsSigned, slice_index_or}
use Rattle.std.specs.Borrow.{Bor}
use Rattle.std.specs.Int.{w32}
use Rattle.std.specs.Str.Parse.{IsNumeral, digits_value, without_leading_plus, without_leading_sign, signed_digits_value}

abbrev pub Word : Type 0
Word = Bor (List ℕ)

abbrev pub Words : Type 0
Words = List Word

-- word k, and its text; past the end there is no text
abbrev pub word : Words → ℕ → Word
word ws k = slice_index_or ws k (record { ref_ptr = (0, 0); now = [] })

abbrev pub text : Words → ℕ → List ℕ
text ws k = (word ws k).now

-- a text writes n: digits, before which a plus may stand, of a number of 32 bits
abbrev pub Unsigned : List ℕ → ℕ → Type 0
Unsigned bs n = (IsNumeral 10 (without_leading_plus bs) × (digits_value 10 (without_leading_plus bs) < 2 ^ 32)) × (n ≡ digits_value 10 (without_leading_plus bs))

-- a text writes v: the same for a signed number, before whose digits a minus may stand too
abbrev pub Signed : List ℕ → ℤ → Type 0
Signed bs v = (IsNumeral 10 (without_leading_sign bs) × FitsSigned w32 (signed_digits_value 10 bs)) × (v ≡ signed_digits_value 10 bs)

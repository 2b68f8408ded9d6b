-- The number: a signed integer of 32 bits, joined and taken modulo 2^32. Assumes nothing.
use Rattle.std.specs.Prelude.{Bool, ℤ, pos, ◌+ℤ◌, ◌-ℤ◌, nat_lt}
use Rattle.std.specs.Int.Signed.{mag}
use Rattle.std.specs.Int.{int_wrap, w32}
use Rattle.samples.specs.Kinds.{Kind}

-- from -2^31 to 2^31 - 1 (mag is n both of n and of -(n + 1))
abbrev pub fits32 : ℤ → Bool
fits32 z = nat_lt (mag z) 2147483648

abbrev pub numbers : Kind ℤ
numbers = record { nothing = pos 0; joined = λ a b. int_wrap w32 (a +ℤ b); taken = λ a b. int_wrap w32 (a -ℤ b); held = fits32 }

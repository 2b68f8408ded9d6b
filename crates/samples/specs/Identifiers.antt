-- The identifier: 32 bits, joined and taken by exclusive or. Assumes nothing.
use Rattle.std.specs.Prelude.{ℕ, nat_lt}
use Rattle.std.specs.Int.Bits.{bit_xor}
use Rattle.samples.specs.Kinds.{Kind}

abbrev pub identifiers : Kind ℕ
identifiers = record { nothing = 0; joined = bit_xor; taken = bit_xor; held = λ n. nat_lt n 4294967296 }

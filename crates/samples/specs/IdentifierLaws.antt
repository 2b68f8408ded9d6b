-- The laws of identifiers. Assumes nothing.
use Rattle.std.specs.Prelude.{◌≡◌, ℕ, true, bit_xor, refl}
use Rattle.std.proofs.Common.{ap, ◌∙◌}
use Rattle.std.proofs.lemmas.Nat.{xor_comm, xor_lt}
use Rattle.std.specs.Int.Bits.{xor_assoc, xor_zero_r, xor_self}
use Rattle.std.proofs.lemmas.Bool.{ltb-true, lt-ltb}
use Rattle.samples.specs.Kinds.{KindLaws, DeltaLaws}
use Rattle.samples.specs.Identifiers.{identifiers}

xor_held : (a b : ℕ) → identifiers.held a ≡ true → identifiers.held b ≡ true → identifiers.held (bit_xor a b) ≡ true
xor_held a b p q = lt-ltb _ _ (xor_lt 32 a b (ltb-true _ _ p) (ltb-true _ _ q))

xor_twice : (a b : ℕ) → bit_xor (bit_xor a b) b ≡ a
xor_twice a b = xor_assoc a b b ∙ ap (bit_xor a) (xor_self b) ∙ xor_zero_r a

pub identifier_lawful : KindLaws identifiers
identifier_lawful = record {
  nothing_held = refl;
  joined_held = xor_held;
  taken_held = xor_held;
  join_nothing = λ a p. xor_zero_r a;
  take_undoes_join = λ a b p q. xor_twice a b;
  join_undoes_take = λ a b p q. xor_twice a b;
}

pub identifier_additive : DeltaLaws identifiers
identifier_additive = record {
  commutes = λ a b p q. xor_comm a b;
  associates = λ a b c p q r. xor_assoc a b c;
}

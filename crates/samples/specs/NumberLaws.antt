-- The laws of numbers. Assumes nothing.
use Rattle.std.specs.Prelude.{◌≡◌, true, ℤ, pos, negsuc, ◌+ℤ◌, ◌-ℤ◌, FitsSigned, refl}
use Rattle.std.proofs.Common.{sym, ap, ◌∙◌, arith}
use Rattle.std.specs.Int.{int_wrap, w32}
use Rattle.std.proofs.lemmas.Int.{ints, int_wrap_fits, int_wrap-add_left, int_wrap-add_right, SFits-int_wrap}
use Rattle.std.proofs.lemmas.Bool.{ltb-true, lt-ltb}
use Rattle.samples.specs.Kinds.{KindLaws, DeltaLaws}
use Rattle.samples.specs.Numbers.{fits32, numbers}

-- a number is held exactly where it fits 32 bits
pub sfits_held : (z : ℤ) → fits32 z ≡ true → FitsSigned w32 z
sfits_held z h = record { sfits = ltb-true _ _ h }

pub held_sfits : (z : ℤ) → FitsSigned w32 z → fits32 z ≡ true
held_sfits z h = lt-ltb _ _ h.sfits

take_join : (a b : ℤ) → int_wrap w32 (int_wrap w32 (a +ℤ b) -ℤ b) ≡ int_wrap w32 a
take_join a b =
    let e : (z : ℤ) → z -ℤ b ≡ z +ℤ (pos 0 -ℤ b) = λ z. omega (arith, ints) in
    ap (int_wrap w32) (e (int_wrap w32 (a +ℤ b))) ∙ int_wrap-add_left w32 (a +ℤ b) (pos 0 -ℤ b) ∙ ap (int_wrap w32) (omega (arith, ints))

pub number_lawful : KindLaws numbers
number_lawful = record {
  nothing_held = refl;
  joined_held = λ a b p q. held_sfits _ (SFits-int_wrap w32 _);
  taken_held = λ a b p q. held_sfits _ (SFits-int_wrap w32 _);
  join_nothing = λ a p. ap (int_wrap w32) (omega (arith, ints)) ∙ int_wrap_fits w32 a (sfits_held a p);
  take_undoes_join = λ a b p q. take_join a b ∙ int_wrap_fits w32 a (sfits_held a p);
  join_undoes_take = λ a b p q. int_wrap-add_left w32 (a -ℤ b) b ∙ ap (int_wrap w32) (omega (arith, ints)) ∙ int_wrap_fits w32 a (sfits_held a p);
}

pub number_additive : DeltaLaws numbers
number_additive = record {
  commutes = λ a b p q. ap (int_wrap w32) (omega (arith, ints));
  associates = λ a b c p q r. int_wrap-add_left w32 (a +ℤ b) c ∙ ap (int_wrap w32) (omega (arith, ints)) ∙ sym (int_wrap-add_right w32 a (b +ℤ c));
}

-- a difference that wraps round, computed
around : numbers.taken (pos 2147483647) (negsuc 2147483647) ≡ negsuc 0
unfolding int_wrap
around = refl

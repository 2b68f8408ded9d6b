-- Quotients by 2 and 4 that are rounded down, and the parts that a sum of two is made from. Assumes nothing.
--     an integer z is read as `up z - down z`, as `omega` reads it
use Rattle.std.specs.Prelude.{◌≡◌, ℕ, zero, suc, ◌+◌, ◌*◌, ◌/◌, ◌%◌, ◌<◌, ◌≤◌, ℤ, pos, negsuc, ◌+ℤ◌, FitsSigned, bit_and, refl}
use Rattle.std.proofs.Common.{◌∙◌, arith, of_z}
use borrow.Author.Differences.{up, down}
use Rattle.std.specs.Int.Signed.{shr_z}
use Rattle.std.specs.Int.{int_div_euclid, w32}
use Rattle.std.proofs.lemmas.Nat.{and_mask, and_mod}
use Rattle.std.proofs.lemmas.Int.{ints}
use Rattle.samples.specs.Means.{half, quarter}

pub by_two : (z : ℤ) → (2 * up (int_div_euclid z (pos 2)) + down z ≤ up z + 2 * down (int_div_euclid z (pos 2))) × (up z + 2 * down (int_div_euclid z (pos 2)) ≤ 2 * up (int_div_euclid z (pos 2)) + down z + 1)
by_two (pos n) = omega arith
by_two (negsuc n) = omega arith

pub by_four : (z : ℤ) → (4 * up (int_div_euclid z (pos 4)) + down z ≤ up z + 4 * down (int_div_euclid z (pos 4))) × (up z + 4 * down (int_div_euclid z (pos 4)) ≤ 4 * up (int_div_euclid z (pos 4)) + down z + 3)
by_four (pos n) = omega arith
by_four (negsuc n) = omega arith

-- a shift to the right, and the bits that it drops
pub shr_two : (z : ℤ) → FitsSigned w32 z → up z + 2 * down (shr_z z 2) ≡ 2 * up (shr_z z 2) + down z + of_z w32 z % 2
shr_two (pos n) f = omega arith
shr_two (negsuc n) f = omega (arith, f.sfits)

pub shr_four : (z : ℤ) → FitsSigned w32 z → up z + 4 * down (shr_z z 4) ≡ 4 * up (shr_z z 4) + down z + of_z w32 z % 4
shr_four (pos n) f = omega arith
shr_four (negsuc n) f = omega (arith, f.sfits)

-- the half and the quarter of a sum, from the shifted parts and what the dropped bits add
pub half_parts : (a b : ℤ) → FitsSigned w32 a → FitsSigned w32 b → (shr_z a 2 +ℤ shr_z b 2) +ℤ pos ((of_z w32 a % 2 + of_z w32 b % 2) / 2) ≡ half a b
half_parts a b f g = omega (arith, ints, shr_two a f, shr_two b g, by_two (a +ℤ b))

pub quarter_parts : (a b : ℤ) → FitsSigned w32 a → FitsSigned w32 b → (shr_z a 4 +ℤ shr_z b 4) +ℤ pos ((of_z w32 a % 4 + of_z w32 b % 4 + 2) / 4) ≡ quarter a b
quarter_parts a b f g = omega (arith, ints, shr_four a f, shr_four b g, by_four ((a +ℤ b) +ℤ pos 2))

both_odd : (s t : ℕ) → s < 2 → t < 2 → bit_and s t ≡ (s + t) / 2
both_odd zero zero p q = refl
both_odd zero (suc zero) p q = refl
both_odd (suc zero) zero p q = refl
both_odd (suc zero) (suc zero) p q = refl
both_odd zero (suc (suc t)) p q = absurd (omega arith)
both_odd (suc zero) (suc (suc t)) p q = absurd (omega arith)
both_odd (suc (suc s)) t p q = absurd (omega arith)

pub carry_of : (m n : ℕ) → bit_and (bit_and m n) 1 ≡ (m % 2 + n % 2) / 2
carry_of m n = and_mask (bit_and m n) 1 ∙ and_mod m n 1 ∙ both_odd (m % 2) (n % 2) (omega arith) (omega arith)

pub low_two : (n : ℕ) → bit_and n 3 ≡ n % 4
low_two n = and_mask n 2

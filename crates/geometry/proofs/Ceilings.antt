-- Quotients rounded up. Assumes nothing.
use Rattle.std.proofs.Common.{◌≡◌, ℕ, ◌+◌, ◌-◌, ◌*◌, ◌/◌, ◌%◌, ◌<◌, ◌≤◌, mul_comm, div-lt_iff_lt-mul, add-mul, le-div_iff_mul-le, arith}
use native.Mathlib.Nat.{div-add-mod}
use Rattle.geometry.specs.Frames.{ceil}

module _ (n : ℕ) (pos : 0 < n) where
  pub ceil_le : (a i : ℕ) → ceil a n ≤ i → a ≤ i * n
  ceil_le a i h =
      let g : a + (n - 1) < (i + 1) * n = (div-lt_iff_lt-mul pos).0 (omega arith) in
      omega (arith, add-mul i 1 n)

  pub le_ceil : (a i : ℕ) → a ≤ i * n → ceil a n ≤ i
  le_ceil a i h =
      let g : ceil a n < i + 1 = (div-lt_iff_lt-mul pos).1 (omega (arith, add-mul i 1 n)) in
      omega arith

  pub ceil_lt : (a i : ℕ) → i < ceil a n → i * n < a
  ceil_lt a i h =
      let g : (i + 1) * n ≤ a + (n - 1) = (le-div_iff_mul-le pos).0 (omega arith) in
      omega (arith, add-mul i 1 n)

  pub lt_ceil : (a i : ℕ) → i * n < a → i < ceil a n
  lt_ceil a i h =
      let g : i + 1 ≤ ceil a n = (le-div_iff_mul-le pos).1 (omega (arith, add-mul i 1 n)) in
      omega arith

  pub whole : (x : ℕ) → x % n ≡ 0 → x ≡ (x / n) * n
  whole x h = omega (arith, div-add-mod x n, mul_comm n (x / n))

  -- a rounded-up quotient is at most its number
  pub ceil_small : (a : ℕ) → ceil a n ≤ a
  ceil_small a = le_ceil a a (omega (arith, native.Mathlib.Nat.le-mul_of_pos_right a pos))

  pub ceil_mono : (a b : ℕ) → a ≤ b → ceil a n ≤ ceil b n
  ceil_mono a b h = le_ceil a (ceil b n) (omega (arith, ceil_le b (ceil b n) (omega arith)))

  -- rounding up shortens a distance
  pub ceil_near : (a b m : ℕ) → b ≤ a + m → ceil b n ≤ ceil a n + m
  ceil_near a b m h =
      let low : a ≤ ceil a n * n = ceil_le a (ceil a n) (omega arith) in
      let far : m ≤ m * n = native.Mathlib.Nat.le-mul_of_pos_right m pos in
      le_ceil b (ceil a n + m) (omega (arith, add-mul (ceil a n) m n))

  -- and times its divisor it passes its number by less than the divisor
  pub ceil_over : (a : ℕ) → ceil a n * n < a + n
  ceil_over a =
      let g : ceil a n * n ≤ a + (n - 1) = (le-div_iff_mul-le pos).0 (omega arith) in
      omega arith

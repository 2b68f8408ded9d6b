use Rattle.std.proofs.Common.{◌≡◌, ℕ, ◌+◌, ◌/◌, ◌%◌, ℤ, pos, ◌+ℤ◌, ap, ◌∙◌, arith, w32, SFits, to_z, of_z}
use lib.Bits.{bit_and}
use lib.Signed.{shr_z}
use Rattle.std.proofs.lemmas.Int.{ints, to_z-of_z, to_z_pos}
use Rattle.samples.specs.Means.{quarter}
use Rattle.samples.specs.Floors.{low_two, shr_four, quarter_parts}
use Rattle.samples.specs.MeanLaws.{quarter_fits}
use Rattle.samples.proofs.mean.quarter.Goals as goal

-- what the code computes, before it goes to bits for the last time
sum_is : (a b : ℤ) (f : SFits w32 a) (g : SFits w32 b)
    → to_z w32 (of_z w32 (to_z w32 (of_z w32 (shr_z (to_z w32 (of_z w32 a)) 4)) +ℤ to_z w32 (of_z w32 (shr_z (to_z w32 (of_z w32 b)) 4))))
    +ℤ to_z w32 (of_z w32 (shr_z (to_z w32 (of_z w32 (to_z w32 (of_z w32 (to_z w32 (bit_and (of_z w32 a) 3) +ℤ to_z w32 (bit_and (of_z w32 b) 3))) +ℤ pos 2))) 4))
    ≡ quarter a b
sum_is a b f g =
    let m : ℕ = of_z w32 a % 4 in
    let n : ℕ = of_z w32 b % 4 in
    let f' : SFits w32 (shr_z a 4) = omega (arith, ints, shr_four a f) in
    let g' : SFits w32 (shr_z b 4) = omega (arith, ints, shr_four b g) in
    let s : SFits w32 (shr_z a 4 +ℤ shr_z b 4) = omega (arith, ints, shr_four a f, shr_four b g) in
    let low_a : to_z w32 (bit_and (of_z w32 a) 3) ≡ pos m = ap (to_z w32) (low_two (of_z w32 a)) ∙ to_z_pos w32 m (omega arith) in
    let low_b : to_z w32 (bit_and (of_z w32 b) 3) ≡ pos n = ap (to_z w32) (low_two (of_z w32 b)) ∙ to_z_pos w32 n (omega arith) in
    let both : to_z w32 (of_z w32 (pos m +ℤ pos n)) ≡ pos (m + n) = to_z_pos w32 (m + n) (omega arith) in
    let more : to_z w32 (of_z w32 (pos (m + n) +ℤ pos 2)) ≡ pos (m + n + 2) = to_z_pos w32 (m + n + 2) (omega arith) in
    let low : to_z w32 (of_z w32 (shr_z (pos (m + n + 2)) 4)) ≡ pos ((m + n + 2) / 4) = to_z_pos w32 ((m + n + 2) / 4) (omega arith) in
    let whole = quarter_parts a b f g in
    cc (to_z-of_z w32 a f, to_z-of_z w32 b g, to_z-of_z w32 (shr_z a 4) f', to_z-of_z w32 (shr_z b 4) g', to_z-of_z w32 (shr_z a 4 +ℤ shr_z b 4) s)

pub overflow_add-result-4 : goal.overflow_add-result-4
overflow_add-result-4 c = rw (sum_is c.args.a c.args.b c.ranges.a c.ranges.b) (quarter_fits c.args.a c.args.b c.ranges.a c.ranges.b)

pub returns : goal.returns
returns c =
    ap (λ (z : ℤ). to_z w32 (of_z w32 z)) (sum_is c.args.a c.args.b c.ranges.a c.ranges.b)
    ∙ to_z-of_z w32 (quarter c.args.a c.args.b) (quarter_fits c.args.a c.args.b c.ranges.a c.ranges.b)

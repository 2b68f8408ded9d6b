use Rattle.std.proofs.Common.{◌≡◌, ◌+◌, ◌/◌, ◌%◌, pos, ◌+ℤ◌, ap, ◌∙◌, arith, w32, SFits, to_z, of_z}
use lib.Bits.{bit_and}
use lib.Signed.{shr_z}
use Rattle.std.proofs.lemmas.Int.{ints, to_z-of_z, to_z_pos}
use Rattle.samples.specs.Means.{half}
use Rattle.samples.specs.Floors.{carry_of, shr_two, half_parts}
use Rattle.samples.specs.MeanLaws.{half_fits}
use Rattle.samples.proofs.mean.half.Goals as goal

pub returns : goal.returns
returns c =
    let a = c.args.a in
    let b = c.args.b in
    let f : SFits w32 a = c.ranges.a in
    let g : SFits w32 b = c.ranges.b in
    let f' : SFits w32 (shr_z a 2) = omega (arith, ints, shr_two a f) in
    let g' : SFits w32 (shr_z b 2) = omega (arith, ints, shr_two b g) in
    let s : SFits w32 (shr_z a 2 +ℤ shr_z b 2) = omega (arith, ints, shr_two a f, shr_two b g) in
    let low : to_z w32 (bit_and (bit_and (of_z w32 a) (of_z w32 b)) 1) ≡ pos ((of_z w32 a % 2 + of_z w32 b % 2) / 2) =
    ap (to_z w32) (carry_of (of_z w32 a) (of_z w32 b)) ∙ to_z_pos w32 _ (omega arith) in
    let whole = half_parts a b f g in
    cc (to_z-of_z w32 a f, to_z-of_z w32 b g, to_z-of_z w32 (shr_z a 2) f', to_z-of_z w32 (shr_z b 2) g', to_z-of_z w32 (shr_z a 2 +ℤ shr_z b 2) s, to_z-of_z w32 (half a b) (half_fits a b f g))

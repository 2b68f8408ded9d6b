use Rattle.std.proofs.Common.{◌≡◌, ℕ, ◌*◌, ◌%◌, ◌^◌, ◌<◌, ◌≤◌, sym, ap, ◌∙◌, subst, mod-eq_of_lt, one-mul, arith, pow_pos, pow_mono}
use Rattle.geometry.specs.Frames.{apart}
use Rattle.geometry.proofs.frame.Frame.apart.Goals as goal

pub returns : goal.returns
unfolding apart
returns c =
    let d = c.saturating_sub.result in
    let few : d ≤ 6 = omega (arith, c.args.self.now.shallow, c.saturating_sub.ensures) in
    let top : 2 ^ d ≤ 64 = pow_mono {i = d} {j = 6} few in
    let pos : 0 < 2 ^ d = pow_pos d in
    let e : (1 * 2 ^ d) % 4294967296 ≡ 2 ^ d = ap (λ (n : ℕ). n % 4294967296) (one-mul (2 ^ d)) ∙ mod-eq_of_lt (omega arith) in
    record { is = e ∙ ap (λ (n : ℕ). 2 ^ n) c.saturating_sub.ensures; some = subst (λ (n : ℕ). 0 < n) (sym e) pos; few = subst (λ (n : ℕ). n ≤ 64) (sym e) top }

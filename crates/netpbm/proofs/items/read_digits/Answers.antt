use Rattle.std.proofs.Common.{◌≡◌, ◌+◌, ◌-◌, ◌*◌, ◌≤◌, true, length, get_or, sym, ap, ◌∙◌, arith, ltb-false}
use Rattle.std.proofs.lemmas.Bool.Decides.{nat_tests}
use Rattle.netpbm.specs.Reads.{digit, value_on, after_digits}
use Rattle.netpbm.specs.Seen.{capped}
use Rattle.netpbm.proofs.Turns.{digits_stop, digits_more}
use Rattle.netpbm.proofs.items.read_digits.Goals as goal
use Rattle.netpbm.proofs.items.read_digits.Goals.{in_default, in_default-2, in_default-3}

pub loop-rest-preserved : goal.loop-rest-preserved
loop-rest-preserved c =
    let bs = c.loop-rest.rest.now in
    let n = c.loop-rest.n in
    let long : 1 ≤ length bs = omega (arith, ltb-false) in
    let here : digit (get_or bs 0 0) ≡ true = grind (arith, nat_tests) in
    let p = c.saturating_mul.ensures in
    let q = c.saturating_add-n.ensures in
    let same : capped c.saturating_add-n.result ≡ capped (n * 10 + (get_or bs 0 0 - 48)) = omega arith in
    let d = digits_more n c.saturating_add-n.result bs long here same in
    (d.0 ∙ c.loop-rest.invariant.0, d.1 ∙ c.loop-rest.invariant.1, omega arith)

pub returns : goal.returns
returns c =
    let bs = c.loop-rest.rest.now in
    let n = c.loop-rest.n in
    let d : (value_on n bs ≡ n) × (after_digits bs ≡ bs) = elim c.if-rest-lt1.branch [
      | in_default w ↦ digits_stop n bs (λ l. absurd (omega arith))
      | in_default-2 w ↦ digits_stop n bs (λ l. grind (arith, nat_tests))
      | in_default-3 w ↦ digits_stop n bs (λ l. grind (arith, nat_tests))
    ] in
    let small : n ≡ capped n = omega arith in
    record { value = small ∙ ap capped (sym d.0) ∙ c.loop-rest.invariant.0; rest = sym d.1 ∙ c.loop-rest.invariant.1 }

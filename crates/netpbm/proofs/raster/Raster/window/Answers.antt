use Rattle.std.proofs.Common.{ℕ, ◌*◌, length, sym, ap, ◌∙◌, subst, arith}
use Rattle.netpbm.specs.Windows.{InRows}
use Rattle.netpbm.proofs.Cuts.{inside_rows}
use Rattle.netpbm.proofs.raster.Raster.window.Goals as goal

pub cut_rows-requires-clause-lies : goal.cut_rows-requires-clause-lies
cut_rows-requires-clause-lies c =
    let r = c.args.self.now in
    let n : ℕ = length c.samples.result.now in
    let long = ap length c.samples.ensures ∙ sym r.samples.ok.0 ∙ r.whole ∙ sym (λ i. c.width.ensures i * c.height.ensures i) in
    subst (λ (q : ℕ). InRows q n c.args.w) (c.width.ensures ∙ sym c.width-2.ensures) (inside_rows c.args.w _ _ n c.in_ok-check_inside.ensures long (omega arith))

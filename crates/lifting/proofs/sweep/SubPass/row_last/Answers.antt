use Rattle.std.proofs.Common.{ℕ, ◌+◌, ◌*◌, ◌∙◌, ap₂}
use Rattle.lifting.proofs.Rows.{last_other, last_done}
use Rattle.lifting.proofs.sweep.SubPass.row_last.Goals as goal

pub returns-then-i-l : goal.returns-then-i-l
returns-then-i-l g c =
    last_done c.args.row (c.inner_of.result + 2 * c.inner_count.result) (ap₂ (λ (a b : ℕ). a + 2 * b) c.inner_of.ensures c.inner_count.ensures) c.if-i-l.true c.row_part.ensures

pub returns-else-i-l : goal.returns-else-i-l
returns-else-i-l g c = last_other c.args.row (λ e. c.if-i-l.false (ap₂ (λ (a b : ℕ). a + 2 * b + 1) c.inner_of.ensures c.inner_count.ensures ∙ e))

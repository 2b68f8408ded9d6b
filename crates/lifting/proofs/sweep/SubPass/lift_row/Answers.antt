use Rattle.std.proofs.Common.{sym, ◌∙◌}
use Rattle.lifting.proofs.Rows.{moves_on, column_skips}
use Rattle.lifting.proofs.sweep.SubPass.lift_row.Goals as goal

pub returns-in-Row : goal.returns-in-Row
returns-in-Row g c = rw c.in-Row.is (moves_on c.row_first.ensures (moves_on c.row_middle.ensures c.row_last.ensures))

pub returns-else-is_parity : goal.returns-else-is_parity
returns-else-is_parity g c = rw c.in-Column.is (column_skips c.args.row (sym c.is_parity.ensures ∙ c.if-is_parity.false))

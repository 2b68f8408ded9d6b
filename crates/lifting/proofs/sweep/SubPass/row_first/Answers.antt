use Rattle.std.proofs.Common.{sym, ◌∙◌}
use Rattle.lifting.proofs.Rows.{first_none, first_done}
use Rattle.lifting.proofs.sweep.SubPass.row_first.Goals as goal

pub returns-then-l-gt0 : goal.returns-then-l-gt0
returns-then-l-gt0 g c = first_done c.args.row (sym c.is_parity.ensures ∙ c.if-is_parity.true) c.row_part.ensures

pub returns-else-is_parity : goal.returns-else-is_parity
returns-else-is_parity g c = first_none c.args.row c.is_parity.ensures c.else-is_parity.either

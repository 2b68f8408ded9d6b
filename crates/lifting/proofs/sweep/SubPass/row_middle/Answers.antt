use Rattle.lifting.proofs.Rows.{middle_done}
use Rattle.lifting.proofs.sweep.SubPass.row_middle.Goals as goal

pub returns : goal.returns
returns g c = middle_done c.args.row c.inner_of.ensures c.inner_count-n.ensures c.row_part.ensures

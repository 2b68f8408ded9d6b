use Rattle.lifting.proofs.Rows.{moves_on, rows_all}
use Rattle.lifting.proofs.sweep.SubPass.lift_rows.Goals as goal

pub loop-j-preserved : goal.loop-j-preserved
loop-j-preserved g c = moves_on c.loop-j.invariant c.lift_row.ensures

pub returns : goal.returns
returns g c = rows_all c.loop-j-test.false c.loop-j.invariant

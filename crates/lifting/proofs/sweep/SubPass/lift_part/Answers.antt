use Rattle.lifting.proofs.RunLaws.{carried}
use Rattle.lifting.proofs.sweep.SubPass.lift_part.Goals as goal

pub returns : goal.returns
returns g c = carried c.fill.new.flags c.fill.auto.flags c.fill.ensures c.lift_run.ensures

use Rattle.lifting.proofs.Works.{both_of}
use Rattle.lifting.proofs.sweep.lift_both.Goals as goal

pub returns : goal.returns
returns g c = both_of c.lift_rows.ensures c.lift_rows-2.ensures

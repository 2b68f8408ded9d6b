use Rattle.commands.proofs.Verbs.{no_put}
use Rattle.commands.proofs.script.put_of.Goals as goal

pub returns-in_err-point_of : goal.returns-in_err-point_of
returns-in_err-point_of c = rw c.from_residual-in_err-point_of.ensures (no_put c.args.words.now c.in_err-point_of.ensures)

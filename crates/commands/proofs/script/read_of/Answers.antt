use Rattle.commands.proofs.Verbs.{no_read}
use Rattle.commands.proofs.script.read_of.Goals as goal

pub returns-in_err-point_of : goal.returns-in_err-point_of
returns-in_err-point_of c = rw c.from_residual.ensures (no_read c.args.words.now c.in_err-point_of.ensures)

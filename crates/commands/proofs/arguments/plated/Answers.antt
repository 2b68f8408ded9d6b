use Rattle.std.proofs.Common.{◌<◌, length, rules}
use Rattle.std.proofs.lemmas.Result.{err_from_is_err_and}
use Rattle.commands.specs.declared.arguments.Flags.{Flags}
use Rattle.commands.specs.Words.{Words}
use Rattle.commands.specs.Commands.{Misflagged}
use Rattle.commands.proofs.Flagging.{settled, unplated}
use Rattle.commands.proofs.arguments.plated.Goals as goal

pub returns-in_err-flags : goal.returns-in_err-flags
returns-in_err-flags c =
    let ws = c.args.words.now in
    let some : 0 < length ws = search rules in
    let u = c.in_err-flags.field-0.0 in
    let p = err_from_is_err_and c.from_residual.result c.from_residual.ensures.1 in
    let bad = c.in_err-flags.ensures in
    rw (p.1, p.2)
    (unplated c.args.action ws u some bad.0 (settled (λ (vs : Words) (f : Flags). Misflagged c.args.action bad.0 vs f u) ws c.no_flags.result some c.no_flags.ensures bad.1))

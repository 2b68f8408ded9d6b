use Rattle.std.proofs.Common.{◌<◌, length, subst, inr, rules}
use Rattle.std.proofs.lemmas.Result.{err_from_is_err_and}
use Rattle.commands.specs.declared.arguments.Action.TheVariants.{Check as ForCheck}
use Rattle.commands.specs.Words.{Words}
use Rattle.commands.specs.Commands.{Plated, Unplated}
use Rattle.rufkandu.specs.Commands.{Begins}
use Rattle.rufkandu.proofs.Faults.{rest, plate, faulty}
use Rattle.rufkandu.proofs.arguments.parse.Goals as goal

pub returns-in_err-job : goal.returns-in_err-job
returns-in_err-job c =
    let ws = c.args.words.now in
    let begins : Begins ws = search rules in
    let some : 0 < length ws = search rules in
    let u = c.in_err-job.field-0.0 in
    let p = err_from_is_err_and c.from_residual.result c.from_residual.ensures.1 in
    let bad = subst (λ (vs : Words). Unplated ForCheck vs u) (rest ws some) c.in_err-job.ensures in
    record { words = rw (p.1, p.2) (faulty ws u begins bad); flags = rw (p.1, p.2) (inr bad) }

pub returns-clause-words : goal.returns-clause-words
returns-clause-words c =
    let ws = c.args.words.now in
    let begins : Begins ws = search rules in
    let some : 0 < length ws = search rules in
    let good = subst (λ (vs : Words). Plated ForCheck vs c.in_ok-job.job c.in_ok-job.field-0-1) (rest ws some) c.in_ok-job.ensures in
    plate ws c.in_ok-job.job.plate begins good.plate

use Rattle.std.proofs.Common.{◌<◌, length, subst, rules}
use Rattle.std.proofs.lemmas.Result.{err_from_is_err_and}
use Rattle.commands.specs.Words.{Words, word, text}
use Rattle.commands.specs.Commands.{Flag, BadFlag}
use Rattle.commands.proofs.Verbs.{rest}
use Rattle.commands.proofs.Flagging.{one_more}
use Rattle.commands.proofs.arguments.Flags.+and_all.Goals as goal

pub returns-in_err-next-in-len1-up : goal.returns-in_err-next-in-len1-up
returns-in_err-next-in-len1-up t c =
    let ws = c.args.words.now in
    let some : 0 < length ws = search rules in
    let p = err_from_is_err_and c.from_residual.result c.from_residual.ensures.1 in
    rw (p.1, p.2) (0, (some, subst (λ (vs : Words). BadFlag c.args.action (word ws 0) vs c.in_err-next-in-len1-up.field-0.0) (rest ws some) c.in_err-next-in-len1-up.ensures))

pub returns-in_ok-next-in-len1-up : goal.returns-in_ok-next-in-len1-up
returns-in_ok-next-in-len1-up t c =
    let ws = c.args.words.now in
    let some : 0 < length ws = search rules in
    let next = c.in_ok-next-in-len1-up.next in
    let more = c.in_ok-next-in-len1-up.rest.now in
    one_more c.args.action ws c.args.self next more c.and_all.result some
    (subst (λ (vs : Words). Flag c.args.action (text ws 0) vs c.args.self next more) (rest ws some) c.in_ok-next-in-len1-up.ensures) c.and_all.ensures

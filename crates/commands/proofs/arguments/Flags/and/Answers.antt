use Rattle.std.proofs.Common.{drop, refl, ap, ◌∙◌, subst, inl, inr, rules}
use Rattle.std.proofs.lemmas.Result.{err_from_is_err_and}
use Rattle.commands.specs.Words.{Words}
use Rattle.commands.specs.Commands.{Number}
use Rattle.commands.specs.Commands.Flag.{flag_levels, flag_labels, flag_at}
use Rattle.commands.proofs.Flagging.{Fails, bad_number, bad_second}
use Rattle.commands.proofs.arguments.Flags.and.Goals as goal

pub returns-in_err-n-in-text : goal.returns-in_err-n-in-text
returns-in_err-n-in-text c =
    let p = err_from_is_err_and c.from_residual.result c.from_residual.ensures.1 in
    rw (p.1, p.2) (bad_number c.args.action c.args.flag c.args.words.now _ (inl (search rules)) c.in_err-n-in-text.ensures)

pub returns-in_ok-n-in-text : goal.returns-in_ok-n-in-text
returns-in_ok-n-in-text c = flag_levels (search rules) _ c.in_ok-n-in-text.ensures.0 refl c.in_ok-n-in-text.ensures.1

pub returns-in_ok-word-in-text-2 : goal.returns-in_ok-word-in-text-2
returns-in_ok-word-in-text-2 c = flag_labels (search rules) _ c.in_ok-word-in-text-2.ensures.0 refl c.in_ok-word-in-text-2.ensures.1

pub returns-in_err-x-in-text-3 : goal.returns-in_err-x-in-text-3
returns-in_err-x-in-text-3 c =
    let p = err_from_is_err_and c.from_residual-in_err-x-in-text-3.result c.from_residual-in_err-x-in-text-3.ensures.1 in
    rw (p.1, p.2) (bad_number c.args.action c.args.flag c.args.words.now _ (inr (search rules)) c.in_err-x-in-text-3.ensures)

pub returns-in_err-y-in-text-3 : goal.returns-in_err-y-in-text-3
returns-in_err-y-in-text-3 c =
    let p = err_from_is_err_and c.from_residual-in_err-y-in-text-3.result c.from_residual-in_err-y-in-text-3.ensures.1 in
    let first = c.in_ok-x-in-text-3.ensures in
    rw (p.1, p.2) (bad_second c.args.action c.args.flag c.args.words.now _ (search rules) _ first.0 (subst (λ (ws : Words). Fails c.args.flag ws c.in_err-y-in-text-3.field-0.0) first.1 c.in_err-y-in-text-3.ensures))

pub returns-in_ok-y-in-text-3 : goal.returns-in_ok-y-in-text-3
returns-in_ok-y-in-text-3 c =
    let first = c.in_ok-x-in-text-3.ensures in
    let second = c.in_ok-y-in-text-3.ensures in
    flag_at (search rules) _ _ first.0 (subst (λ (ws : Words). Number ws c.in_ok-y-in-text-3.y) first.1 second.0) refl (second.1 ∙ ap (drop 1) first.1)

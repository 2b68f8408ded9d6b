use Rattle.std.proofs.Common.{◌≡◌, not, length, drop, ap, ◌∙◌, rules, tests, unwrap_or}
use Rattle.std.specs.List.{position_or_len}
use Rattle.std.proofs.lemmas.List.{take_rest}
use Rattle.std.proofs.lemmas.List.Sums.{prefix_len-le-length}
use Rattle.std.proofs.lemmas.Iterator.{YieldsList-from_slice}
use Rattle.std.proofs.lemmas.Iterator.Search.{position_from_yields_List}
use Rattle.netpbm.specs.Reads.{line_end}
use Rattle.netpbm.proofs.Turns.{first_or_end}
use Rattle.netpbm.proofs.items.skip_line.Goals as goal

pub returns : goal.returns
returns c =
    let bs = c.args.bytes.now in
    let found = position_from_yields_List line_end _ _ c.position.result c.position.ensures.ran (YieldsList-from_slice bs cc) (λ x b q k. search (rules, tests)) in
    let end : c.unwrap_or-end.result ≡ position_or_len line_end bs =
    c.unwrap_or-end.ensures ∙ ap (λ o. unwrap_or o (length bs)) found ∙ first_or_end _ _ (prefix_len-le-length (λ b. not (line_end b)) bs) in
    take_rest bs _ ∙ ap (λ n. drop n bs) end

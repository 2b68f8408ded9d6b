use Rattle.std.proofs.Common.{leb, ◌∙◌, rules, tests}
use Rattle.std.proofs.lemmas.Iterator.{YieldsList-from_slice}
use Rattle.std.proofs.lemmas.Iterator.Search.{all_from_yields_List}
use Rattle.netpbm.proofs.Samples.{within_all}
use Rattle.netpbm.proofs.raster.make.all_within.Goals as goal

pub returns : goal.returns
returns c =
    let m = c.args.maxval in
    let xs = c.args.samples.now in
    all_from_yields_List (λ x. leb x m) _ _ c.all.result c.all.ensures.ran (YieldsList-from_slice xs cc) (λ x b q k. search (rules, tests)) ∙ within_all m xs

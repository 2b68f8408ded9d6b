use Rattle.std.proofs.Common.{◌≡◌, ℕ, Bool, not, ◌&&◌, length, pos, nat_lt, ◌∙◌, slice_index_or, rules, tests}
use Rattle.std.specs.List.{enumerate_from, filter}
use Rattle.std.proofs.lemmas.Iterator.{YieldsList-from_slice}
use Rattle.std.proofs.lemmas.Iterator.Consumers.{YieldsList-at, YieldsList-from_enumerate, YieldsList-from_filter, count_from_yields_List}
use Rattle.std.proofs.lemmas.List.Sums.{length-filter}
use Rattle.plates.specs.Tiles.{is_number}
use Rattle.plates.proofs.Sums.{count_placed}
use Rattle.plates.proofs.work.count_lost.Goals as goal

pub returns : goal.returns
returns c =
    let xs = c.args.plane.now in
    let ns = c.args.samples.now in
    let p : ℕ × ℕ → Bool = λ q. not (nat_lt q.0 (length xs) && is_number q.1 (slice_index_or xs q.0 (pos 0))) in
    let is : c.count.result ≡ length (filter p (enumerate_from 0 ns)) =
    count_from_yields_List c.filter.result _ c.count.ensures.ran
    (YieldsList-from_filter _ p (YieldsList-at c.filter.ensures.source (YieldsList-from_enumerate (YieldsList-at c.enumerate.ensures.source (YieldsList-from_slice ns (cc))) (cc))) c.filter.ensures.closure (λ x r q k. search (rules, tests))) in
    is ∙ length-filter p (enumerate_from 0 ns) ∙ count_placed p ns

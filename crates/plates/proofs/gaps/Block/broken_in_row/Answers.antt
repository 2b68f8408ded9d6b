use Rattle.std.proofs.Common.{◌≡◌, ℕ, ◌+◌, ◌-◌, Bool, length, ◌∙◌, arith, rules, tests}
use Rattle.std.specs.List.{range_with_len, filter}
use Rattle.std.proofs.lemmas.Iterator.{YieldsList-from_range}
use Rattle.std.proofs.lemmas.Iterator.Consumers.{YieldsList-at, YieldsList-from_filter, count_from_yields_List}
use Rattle.std.proofs.lemmas.List.Sums.{length-filter}
use Rattle.plates.specs.Tallies.{gap_at}
use Rattle.plates.proofs.Sums.{count_of}
use Rattle.plates.proofs.gaps.Block.broken_in_row.Goals as goal

pub returns-clause-is : goal.returns-clause-is
returns-clause-is g c =
    let b = c.args.self.now in
    let p : ℕ → Bool = λ x. g.B.BreakSource.broken c.args.source.now (gap_at b.resolution b.direction x c.args.y) in
    let wide : b.left + b.columns - b.left ≡ b.columns = omega arith in
    let is : c.count.result ≡ length (filter p (range_with_len b.left b.columns)) =
    count_from_yields_List c.filter.result _ c.count.ensures.ran
    (YieldsList-from_filter _ p (YieldsList-at c.filter.ensures.source (YieldsList-from_range b.left (b.left + b.columns) b.columns (cc) wide)) c.filter.ensures.closure (λ x r q k. search (rules, tests))) in
    is ∙ length-filter p (range_with_len b.left b.columns) ∙ count_of p b.left b.columns

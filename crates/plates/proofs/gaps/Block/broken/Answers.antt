use Rattle.std.proofs.Common.{◌≡◌, ℕ, ◌+◌, ◌-◌, map, sum, ◌∙◌, arith, rules}
use Rattle.std.specs.List.{range_with_len}
use Rattle.std.proofs.lemmas.Iterator.{YieldsList-from_range, YieldsList-from_map}
use Rattle.std.proofs.lemmas.Iterator.Consumers.{YieldsList-at, sum_from_yields_List, fits_from_yields_list}
use Rattle.plates.specs.Tallies.{broken_from, broken_rows}
use Rattle.plates.proofs.Sums.{total_of, rows_few}
use Rattle.plates.proofs.gaps.Block.broken.Goals as goal

pub sum-requires-clause-fits : goal.sum-requires-clause-fits
sum-requires-clause-fits g c =
    let b = c.args.self.now in
    let broken = g.B.BreakSource.broken c.args.source.now in
    let f : ℕ → ℕ = λ y. broken_from broken b.resolution b.direction b.left y b.columns in
    let high : b.top + b.rows - b.top ≡ b.rows = omega arith in
    let all : sum (map f (range_with_len b.top b.rows)) ≡ broken_rows broken b.resolution b.direction b.left b.top b.columns b.rows = total_of (λ x. x) f b.top b.rows in
    fits_from_yields_list c.map.result _
    (YieldsList-from_map _ f (YieldsList-at c.map.ensures.source (YieldsList-from_range b.top (b.top + b.rows) b.rows (cc) high)) c.map.ensures.closure (λ x r q k. search rules))
    (omega (arith, all, rows_few broken b.resolution b.direction b.left b.top b.columns b.rows b.narrow, b.low))

pub returns-clause-is : goal.returns-clause-is
returns-clause-is g c =
    let b = c.args.self.now in
    let f : ℕ → ℕ = λ y. broken_from (g.B.BreakSource.broken c.args.source.now) b.resolution b.direction b.left y b.columns in
    let high : b.top + b.rows - b.top ≡ b.rows = omega arith in
    let is : c.sum.result ≡ sum (map f (range_with_len b.top b.rows)) =
    sum_from_yields_List c.map.result _ c.sum.ensures.ran
    (YieldsList-from_map _ f (YieldsList-at c.map.ensures.source (YieldsList-from_range b.top (b.top + b.rows) b.rows (cc) high)) c.map.ensures.closure (λ x r q k. search rules)) in
    is ∙ total_of (λ x. x) f b.top b.rows

pub returns-clause-few : goal.returns-clause-few
returns-clause-few g c =
    let b = c.args.self.now in
    omega (arith, returns-clause-is g c, rows_few (g.B.BreakSource.broken c.args.source.now) b.resolution b.direction b.left b.top b.columns b.rows b.narrow, b.low)

use Rattle.std.proofs.Common.{◌≡◌, pos, fold, arith, rules, w32, to_z, of_z, slice_index_or}
use Rattle.std.specs.Int.{int_max, int_min}
use Rattle.std.specs.Ordering.{int_cmp, max_by_ordering, min_by_ordering}
use Rattle.std.proofs.lemmas.Int.{to_z-of_z}
use Rattle.std.proofs.lemmas.Iterator.{YieldsList-from_slice}
use Rattle.std.proofs.lemmas.Iterator.Consumers.{YieldsList-from_copied, reduce_from_yields_List}
use Rattle.plates.proofs.Ends.{least_of, greatest_of}
use Rattle.plates.proofs.work.range_of.Goals as goal

pub returns : goal.returns
returns c =
    let xs = c.args.plane.now in
    let low : c.unwrap_or-least.result ≡ fold int_min (slice_index_or xs 0 (pos 0)) xs =
    least_of xs c.min.result _ (reduce_from_yields_List (λ p z. min_by_ordering (int_cmp p z) p z) _ c.min.result c.min.ensures.ran (YieldsList-from_copied (YieldsList-from_slice xs cc))) (search rules) in
    let high : c.unwrap_or-greatest.result ≡ fold int_max (slice_index_or xs 0 (pos 0)) xs =
    greatest_of xs c.max.result _ (reduce_from_yields_List (λ p z. max_by_ordering (int_cmp p z) p z) _ c.max.result c.max.ensures.ran (YieldsList-from_copied (YieldsList-from_slice xs cc))) (search rules) in
    let least : to_z w32 (of_z w32 c.unwrap_or-least.result) ≡ fold int_min (slice_index_or xs 0 (pos 0)) xs = grind (arith, to_z-of_z, low) in
    let greatest : to_z w32 (of_z w32 c.unwrap_or-greatest.result) ≡ fold int_max (slice_index_or xs 0 (pos 0)) xs = grind (arith, to_z-of_z, high) in
    λ i. record { least = least i; greatest = greatest i }

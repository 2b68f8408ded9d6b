use Rattle.std.proofs.Common.{◌/◌, length, rules, tests, arith}
use Rattle.std.specs.Simd.{first_chunks}
use Rattle.std.proofs.lemmas.Iterator.{YieldsList-from_map, YieldsList-from_slice}
use Rattle.std.proofs.lemmas.Iterator.Consumers.{YieldsList-at}
use Rattle.std.proofs.lemmas.Iterator.Adapters.{items_from_extend}
use Rattle.netpbm.proofs.Samples.{pair_value, pairs_chunks}
use Rattle.netpbm.proofs.reader.wide_samples.Goals as goal

pub returns : goal.returns
returns c =
    let bs = c.args.bytes.now in
    let h = items_from_extend c.extend.result c.extend.ensures.ran (YieldsList-from_map _ pair_value (YieldsList-at c.map.ensures.source (YieldsList-from_slice (first_chunks 2 (length bs / 2) bs) cc)) c.map.ensures.closure (λ x r q k. search (rules, tests))) in
    let same = pairs_chunks (length bs / 2) bs (omega arith) (omega arith) in
    search rules

use Rattle.std.proofs.Common.{◌≡◌, ℕ, ◌+◌, ◌-◌, ◌*◌, ◌++◌, List, length, take, drop, vec_items, ap, sym, subst, ◌∙◌, add-mul, arith}
use Rattle.std.proofs.lemmas.List.{take_rest, length_push}
use Rattle.netpbm.specs.Windows.{PartRows}
use Rattle.netpbm.proofs.Cuts.{row_room, rows_below, cut_more}
use Rattle.netpbm.proofs.Rows.{row_turn, row_end, row_part}
use Rattle.netpbm.proofs.window.cut_rows.Goals as goal

pub offset_bounds-row-w : goal.offset_bounds-row-w
offset_bounds-row-w c =
    let t = c.args.w in
    let stride = c.args.stride in
    let xs = c.args.samples.now in
    let below : List ℕ = drop (t.y * stride) xs in
    let row = row_turn stride t.height below _ _ _ c.requires.wide c.chunks_exact.ensures.size (c.chunks_exact.ensures.rest ∙ take_rest xs (t.y * stride)) c.take-row-items.ensures.source c.take-row-items.ensures.count c.into_iter-row-iterator.ensures.into_iter_gives (rows_below t stride xs c.requires.lies) c.loop-row.yielded _ c.loop-row.yielded_by _ _ c.in-Some.row c.in-Some.is c.next.ensures.steps in
    omega (arith, row_room t stride (length xs) (length c.loop-row.yielded) c.requires.lies row.below)

pub slice_bounds-extend_from_slice-end : goal.slice_bounds-extend_from_slice-end
slice_bounds-extend_from_slice-end c =
    let t = c.args.w in
    let stride = c.args.stride in
    let xs = c.args.samples.now in
    let below : List ℕ = drop (t.y * stride) xs in
    let row = row_turn stride t.height below _ _ _ c.requires.wide c.chunks_exact.ensures.size (c.chunks_exact.ensures.rest ∙ take_rest xs (t.y * stride)) c.take-row-items.ensures.source c.take-row-items.ensures.count c.into_iter-row-iterator.ensures.into_iter_gives (rows_below t stride xs c.requires.lies) c.loop-row.yielded _ c.loop-row.yielded_by _ _ c.in-Some.row c.in-Some.is c.next.ensures.steps in
    omega arith

pub loop-row-preserved : goal.loop-row-preserved
loop-row-preserved c =
    let t = c.args.w in
    let stride = c.args.stride in
    let xs = c.args.samples.now in
    let below : List ℕ = drop (t.y * stride) xs in
    let row = row_turn stride t.height below _ _ _ c.requires.wide c.chunks_exact.ensures.size (c.chunks_exact.ensures.rest ∙ take_rest xs (t.y * stride)) c.take-row-items.ensures.source c.take-row-items.ensures.count c.into_iter-row-iterator.ensures.into_iter_gives (rows_below t stride xs c.requires.lies) c.loop-row.yielded _ c.loop-row.yielded_by _ _ c.in-Some.row c.in-Some.is c.next.ensures.steps in
    let n = length c.loop-row.yielded in
    let width : t.x + t.width - t.x ≡ t.width = omega arith in
    let at : t.y * stride + n * stride + t.x ≡ (t.y + n) * stride + t.x = omega (arith, add-mul t.y n stride) in
    subst (λ (q : ℕ). PartRows stride xs t q (vec_items c.extend_from_slice.new.self)) (sym (length_push c.loop-row.yielded c.in-Some.row))
    (cut_more stride xs t n (vec_items c.loop-row.out) _ c.loop-row.invariant (row_room t stride (length xs) n c.requires.lies row.below)
    (c.in_ok-extend_from_slice.ensures.items ∙ ap (λ (q : List ℕ). vec_items c.loop-row.out ++ q)
    ((λ i. take (width i) (drop t.x (row.is i))) ∙ row_part stride (n * stride) (t.y * stride) t.x t.width xs c.requires.lies.across ∙ ap (λ (q : ℕ). take t.width (drop q xs)) at)))

pub returns : goal.returns
returns c =
    let t = c.args.w in
    let stride = c.args.stride in
    let xs = c.args.samples.now in
    let below : List ℕ = drop (t.y * stride) xs in
    let all = row_end stride t.height below _ _ _ c.requires.wide c.chunks_exact.ensures.size (c.chunks_exact.ensures.rest ∙ take_rest xs (t.y * stride)) c.take-row-items.ensures.source c.take-row-items.ensures.count c.into_iter-row-iterator.ensures.into_iter_gives (rows_below t stride xs c.requires.lies) c.loop-row.yielded _ c.loop-row.yielded_by _ _ c.in-None.is c.next.ensures.steps in
    subst (λ (q : ℕ). PartRows stride xs t q (vec_items c.loop-row.out)) all c.loop-row.invariant

use Rattle.std.proofs.Common.{◌≡◌, ℕ, ◌+◌, ◌-◌, ◌*◌, take, drop, ap, ◌∙◌, subst, arith}
use borrow.Rule.Slice.PartMut.{put_mid}
use Rattle.netpbm.specs.Windows.{RowsPut}
use Rattle.netpbm.proofs.Cuts.{put_more, own_more}
use Rattle.netpbm.proofs.window.put_rows.Goals as goal

pub loop-row-preserved : goal.loop-row-preserved
loop-row-preserved c =
    let t = c.args.w in
    let n = c.loop-row.row in
    let start : ℕ = (t.y + n) * c.args.stride + t.x in
    let from : ℕ = n * t.width in
    let part = c.args.part.now in
    let wide : start + t.width - start ≡ t.width = omega arith in
    let long : from + t.width - from ≡ t.width = omega arith in
    let is = c.copy_from_slice.ensures.after ∙ ap (λ (q : ℕ). take q (drop from part)) long in
    let after = ap (λ (q : ℕ). put_mid start q c.loop-row.samples c.copy_from_slice.new.self) wide in (
      put_more c.args.stride c.args.samples.now t n part c.loop-row.samples c.copy_from_slice.new.self _ c.loop-row-test.true c.requires.lies c.requires.whole is after c.loop-row.invariant.0,
      λ p. own_more c.args.stride c.args.samples.now t n part c.loop-row.samples c.copy_from_slice.new.self _ c.loop-row-test.true c.requires.lies c.requires.whole is after p (c.loop-row.invariant.1 p),
    )

pub returns : goal.returns
returns c =
    let all : c.loop-row.row ≡ c.args.w.height = omega arith in
    record {
      put = subst (λ (n : ℕ). RowsPut c.args.stride c.args.samples.now c.args.w n c.args.part.now c.loop-row.samples) all c.loop-row.invariant.0;
      own = c.loop-row.invariant.1;
    }

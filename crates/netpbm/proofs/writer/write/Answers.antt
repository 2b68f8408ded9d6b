use Rattle.std.proofs.Common.{◌≡◌, ◌++◌, vec_items, sym, ap, ◌∙◌, arith}
use Rattle.std.proofs.lemmas.Nat.{mul-le}
use Rattle.netpbm.specs.Pictures.{Picture, within}
use Rattle.netpbm.specs.Parses.{parsed}
use Rattle.netpbm.specs.Rasters.{picture_of}
use Rattle.netpbm.specs.Writes.{sample_bytes, written}
use Rattle.netpbm.proofs.Trips.{Sound, written_read}
use Rattle.netpbm.proofs.writer.write.Goals as goal

pub put_samples-requires : goal.put_samples-requires
put_samples-requires c = (λ i. within (c.maxval.ensures i) (c.samples.ensures i)) ∙ c.args.raster.now.kept

pub returns : goal.returns
unfolding written
returns c =
    let r = c.args.raster.now in
    let p : Picture = picture_of r in
    let e : vec_items c.put_samples.new.out ≡ written p =
    c.in_ok-put_samples.ensures ∙ (λ i. c.in_ok-out.ensures i ++ sample_bytes (c.maxval.ensures i) (c.samples.ensures i)) in
    let long = sym r.samples.ok.0 ∙ r.whole in
    let wide = mul-le r.width 1 r.width r.height (omega arith) r.high in
    let high = mul-le 1 r.height r.width r.height r.wide (omega arith) in
    let s : Sound p = record { wide = r.wide; high = r.high; bright = r.bright; width_fits = omega arith; height_fits = omega arith; maxval_fits = omega arith; whole = long; kept = r.kept } in
    record { bytes = e; back = ap parsed e ∙ written_read p s }

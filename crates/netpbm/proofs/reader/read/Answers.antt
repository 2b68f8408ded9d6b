use Rattle.std.proofs.Common.{◌≡◌, ◌^◌, ◌<◌, length, vec_items, ap, ◌∙◌, ⊎_elim, sym, inl, inr, arith}
use Rattle.std.proofs.lemmas.Result.{err_from_is_err_and}
use Rattle.netpbm.specs.Answers.{refused}
use Rattle.netpbm.specs.Faults.{fault_number}
use Rattle.netpbm.specs.Rasters.{seen_raster}
use Rattle.netpbm.specs.declared.fault.Fault.TheVariants.{CutShort, LeftOver}
use Rattle.netpbm.proofs.Readings.{read_fault, read_short, read_over, read_wants, read_fits}
use Rattle.netpbm.proofs.reader.read.Goals as goal

pub returns-in_err-head : goal.returns-in_err-head
returns-in_err-head c =
    let p = err_from_is_err_and c.from_residual.result c.from_residual.ensures.1 in
    inl (ap seen_raster p.1 ∙ ap (λ f. refused (fault_number f)) p.2 ∙ read_fault c.args.bytes.now _ c.in_err-head.ensures)

pub returns-in_err-check_len : goal.returns-in_err-check_len
returns-in_err-check_len c =
    let bs = c.args.bytes.now in
    let fit : length bs < 2 ^ 64 = omega arith in
    let p = err_from_is_err_and c.from_residual-in_err-check_len.result c.from_residual-in_err-check_len.ensures.1 in
    let size = c.size.ensures in
    let head = c.in_ok-head.head in
    let rest = c.in_ok-head.rest.now in
    inl (ap seen_raster p.1 ∙ ap (λ f. refused (fault_number f)) p.2 ∙
    ⊎_elim
    (λ (h : (length rest < c.size.result) × (c.in_err-check_len.field-0.0 ≡ CutShort)). ap (λ f. refused (fault_number f)) h.1 ∙ read_short bs head rest c.in_ok-head.ensures fit (omega arith))
    (λ (h : (c.size.result < length rest) × (c.in_err-check_len.field-0.0 ≡ LeftOver)). ap (λ f. refused (fault_number f)) h.1 ∙ read_over bs head rest c.in_ok-head.ensures fit (omega arith))
    c.in_err-check_len.ensures)

pub returns-in_err-samples : goal.returns-in_err-samples
returns-in_err-samples c =
    let bs = c.args.bytes.now in
    let fit : length bs < 2 ^ 64 = omega arith in
    let p = err_from_is_err_and c.from_residual-in_err-samples.result c.from_residual-in_err-samples.ensures.1 in
    inr (
      ap seen_raster p.1 ∙ ap (λ f. refused (fault_number f)) p.2,
      read_wants bs c.in_ok-head.head c.in_ok-head.rest.now c.in_ok-head.ensures fit (sym (c.in_ok-check_len.ensures ∙ c.size.ensures)),
    )

pub returns : goal.returns
returns c =
    let bs = c.args.bytes.now in
    let fit : length bs < 2 ^ 64 = omega arith in
    inl (c.new.ensures ∙ read_fits bs c.in_ok-head.head c.in_ok-head.rest.now c.in_ok-head.ensures fit (vec_items c.in_ok-samples.samples) (sym (c.in_ok-check_len.ensures ∙ c.size.ensures)) c.in_ok-samples.ensures)

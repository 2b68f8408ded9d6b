use Rattle.std.proofs.Common.{◌≡◌}
use Rattle.netpbm.specs.Windows.{PartRows, RowsPut}
use Rattle.netpbm.proofs.window.put_rows.Given as goal

abbrev pub invariant-loop-row : goal.invariant-loop-row
invariant-loop-row l =
    RowsPut l.stride l.initial.samples l.w l.row l.part l.samples
    × (PartRows l.stride l.initial.samples l.w l.w.height l.part → l.samples ≡ l.initial.samples)

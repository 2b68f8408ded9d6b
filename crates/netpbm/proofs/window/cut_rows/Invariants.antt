use Rattle.std.proofs.Common.{length, vec_items}
use Rattle.netpbm.specs.Windows.{PartRows}
use Rattle.netpbm.proofs.window.cut_rows.Given as goal

abbrev pub invariant-loop-row : goal.invariant-loop-row
invariant-loop-row l = PartRows l.stride l.samples l.w (length l.yielded) (vec_items l.out)

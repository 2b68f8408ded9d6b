use Rattle.std.proofs.Common.{◌≡◌, ◌++◌, take, vec_items}
use Rattle.std.specs.List.{flat_map}
use Rattle.netpbm.specs.Writes.{pair_bytes}
use Rattle.netpbm.proofs.writer.put_wide.Given as goal

abbrev pub invariant-loop-s : goal.invariant-loop-s
invariant-loop-s l = vec_items l.out ≡ vec_items l.initial.out ++ flat_map pair_bytes (take l.s-index l.samples)

use Rattle.std.proofs.Common.{arith}
use Rattle.plates.proofs.Sums.{lattice_few, starts_within}
use Rattle.plates.proofs.gaps.count_gaps.Goals as goal

pub invariant_of-block : goal.invariant_of-block
invariant_of-block g c =
    let few = lattice_few c.args.frame.now c.args.r c.lattice-l.result c.lattice-l.ensures.is in
    let s = starts_within c.lattice-l.result c.args.d c.starts_of-columns.result c.starts_of-columns.ensures in
    record {
      right = omega (arith, few.right, s.columns);
      bottom = omega (arith, few.bottom, s.rows);
      narrow = omega (arith, few.columns, s.columns);
      low = omega (arith, few.rows, s.rows);
    }

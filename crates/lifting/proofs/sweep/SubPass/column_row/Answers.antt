use Rattle.std.proofs.Common.{lit<, arith}
use Rattle.std.proofs.lemmas.List.{length-take-le}
use Rattle.lifting.proofs.Rows.{column_moves, column_back, column_within}
use Rattle.lifting.proofs.sweep.SubPass.column_row.Goals as goal

pub invariant_of-track : goal.invariant_of-track
invariant_of-track g c = record { inside = column_back c.args.row _ c.requires.small c.reach.result c.reach.ensures }

pub lift_part-requires : goal.lift_part-requires
lift_part-requires g c = (
  lit< tt,
  λ k h.
      column_within c.args.row _ c.requires.small c.reach-2.result c.reach-2.ensures k (omega (arith, length-take-le c.args.row.lattice.columns c.args.flags.now (omega arith))),
)

pub returns : goal.returns
returns g c =
    column_moves c.args.row c.requires.parity (length-take-le c.args.row.lattice.columns c.args.flags.now (omega arith)) c.reach.ensures c.reach-2.ensures c.lift_part.ensures

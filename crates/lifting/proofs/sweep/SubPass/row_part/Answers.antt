use Rattle.std.proofs.Common.{lit<, arith}
use Rattle.std.proofs.lemmas.List.{length-take-le}
use Rattle.lifting.proofs.Rows.{row_moves, row_back, row_within}
use Rattle.lifting.proofs.sweep.SubPass.row_part.Goals as goal

pub invariant_of-track : goal.invariant_of-track
invariant_of-track g c = record { inside = row_back c.args.row _ c.requires.small c.args.i c.reach.result c.reach.ensures }

pub lift_part-requires : goal.lift_part-requires
lift_part-requires g c = (
  lit< tt,
  λ k h. row_within c.args.row _ c.requires.small c.args.i c.args.n c.reach-2.result c.requires.points c.reach-2.ensures k (omega (arith, length-take-le c.args.n c.args.flags.now (omega arith))),
)

pub returns : goal.returns
returns g c =
    row_moves c.args.row c.args.i c.args.n c.requires.points c.requires.parity c.reach.ensures c.reach-2.ensures (length-take-le c.args.n c.args.flags.now (omega arith)) c.lift_part.ensures

use Rattle.std.proofs.Common.{◌≡◌, length, arith, rules}
use Rattle.netpbm.specs.Windows.{rows_in}
use Rattle.netpbm.proofs.Cuts.{rows_inside}
use Rattle.netpbm.proofs.window.put_window.Goals as goal

pub put_rows-requires-clause-lies : goal.put_rows-requires-clause-lies
put_rows-requires-clause-lies c =
    let n = length c.args.samples.now in
    let rows : c.unwrap_or-rows.result ≡ rows_in c.args.width n = search rules in
    rows_inside c.args.w c.args.width n _ rows c.in_ok-check_inside.ensures (omega arith)

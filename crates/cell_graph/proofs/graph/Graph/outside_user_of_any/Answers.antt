use Rattle.std.proofs.Common.{sym, arith}
use Rattle.cell_graph.proofs.Outside.{listed_index, none_outside}
use Rattle.cell_graph.proofs.graph.Graph.outside_user_of_any.Goals as goal

pub returns-clause-none : goal.returns-clause-none
returns-clause-none g c =
    none_outside c.args.cells.now c.args.self.now.rows (λ r has into.
    let w = listed_index c.args.cells.now r.target into in
    c.loop-cell.invariant w.0 (omega (arith, w.1)) r has (sym (w.2 (record { 0 = 0 }))))

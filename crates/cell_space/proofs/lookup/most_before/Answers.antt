use Rattle.std.proofs.Common.{◌-◌, ◌≤◌, ap, arith}
use Rattle.cell_space.specs.declared.cell.SpaceCell.{SpaceCell}
use Rattle.cell_space.proofs.Steps.{past_most}
use Rattle.cell_space.proofs.lookup.most_before.Goals as goal

pub returns-clause-rest : goal.returns-clause-rest
returns-clause-rest c = λ k d le lt.
    let same = ap (λ (s : SpaceCell). s.cell.0) c.index-cells-0.is in
    let far : c.args.number - c.index-cells-0.result.cell.0 ≤ k = omega (arith, le, lt, same) in
    past_most c.args.cells.now c.args.number c.index-cells-0.result c.requires c.index-cells-0.is k d far lt

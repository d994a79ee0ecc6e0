use Rattle.std.proofs.Common.{rules, leb}
use Rattle.std.proofs.lemmas.List.Sorted.{IsPartitionPoint-from_clause}
use Rattle.cell_graph.specs.Lists.{below_section_place}
use Rattle.cell_graph.proofs.Cuts.{parted, cut_of_point, below_section_no_higher}
use Rattle.cell_graph.proofs.order.section_cell_end.Goals as goal

pub returns-clause-cut : goal.returns-clause-cut
returns-clause-cut c =
    let ordered = parted below_section_place (λ s. leb s.key.cell.0 c.args.cell.0) (λ x y h k. below_section_no_higher x.key y.key c.args.cell.0 h k) _ c.requires in
    let point = IsPartitionPoint-from_clause (λ s. leb s.key.cell.0 c.args.cell.0) _ _ c.partition_point.ensures.partitioned ordered (λ a r q k. search rules) in
    cut_of_point (λ s. leb s.key.cell.0 c.args.cell.0) _ _ c.partition_point.ensures.bound point

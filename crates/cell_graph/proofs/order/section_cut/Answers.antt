use Rattle.std.proofs.Common.{rules}
use Rattle.std.proofs.lemmas.List.Sorted.{IsPartitionPoint-from_clause}
use Rattle.cell_graph.specs.Order.{below_section}
use Rattle.cell_graph.specs.Lists.{below_section_place}
use Rattle.cell_graph.proofs.Cuts.{parted, cut_of_point, below_section_trans}
use Rattle.cell_graph.proofs.order.section_cut.Goals as goal

pub returns : goal.returns
returns c =
    let ordered = parted below_section_place (λ s. below_section s.key c.args.key) (λ x y h k. below_section_trans x.key y.key c.args.key h k) _ c.requires in
    let point = IsPartitionPoint-from_clause (λ s. below_section s.key c.args.key) _ _ c.partition_point.ensures.partitioned ordered (λ a r q k. search rules) in
    cut_of_point (λ s. below_section s.key c.args.key) _ _ c.partition_point.ensures.bound point

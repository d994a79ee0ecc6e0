use Rattle.std.proofs.Common.{rules}
use Rattle.std.proofs.lemmas.List.Sorted.{IsPartitionPoint-from_clause}
use Rattle.cell_graph.specs.Order.{below_row}
use Rattle.cell_graph.specs.Lists.{below_row_place}
use Rattle.cell_graph.proofs.Cuts.{parted, cut_of_point, below_row_trans}
use Rattle.cell_graph.proofs.order.row_cut.Goals as goal

pub returns : goal.returns
returns c =
    let ordered = parted below_row_place (λ r. below_row r.user r.entry c.args.user c.args.entry) (λ x y h k. below_row_trans x.user x.entry y.user y.entry c.args.user c.args.entry h k) _ c.requires in
    let point = IsPartitionPoint-from_clause (λ r. below_row r.user r.entry c.args.user c.args.entry) _ _ c.partition_point.ensures.partitioned ordered (λ a r q k. search rules) in
    cut_of_point (λ r. below_row r.user r.entry c.args.user c.args.entry) _ _ c.partition_point.ensures.bound point

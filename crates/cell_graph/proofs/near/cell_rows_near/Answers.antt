use Rattle.std.proofs.Common.{ap, subst, sym, take, leb, List}
use Rattle.std.proofs.lemmas.List.{take_rest}
use Rattle.cell_graph.specs.declared.order.RowPlace.{RowPlace}
use Rattle.cell_graph.specs.Lists.{RowsRise, below_row_place}
use Rattle.cell_graph.specs.Order.{IsCut}
use Rattle.cell_graph.proofs.Nearby.{range_of, rises_drop}
use Rattle.cell_graph.proofs.near.cell_rows_near.Goals as goal

pub count_up_to-count-requires : goal.count_up_to-count-requires
count_up_to-count-requires c =
    subst (λ (l : List RowPlace). RowsRise l) (sym (take_rest c.args.list.now c.cell_start_near-start.result)) (rises_drop below_row_place c.cell_start_near-start.result c.args.list.now c.requires)

pub returns : goal.returns
returns c =
    let start = c.cell_start_near-start.result in
    let rest = take_rest c.args.list.now start in
    range_of c.args.list.now _ c.args.cell.0 start c.count_up_to-count.result c.cell_start_near-start.ensures.cut
    (subst (λ (l : List RowPlace). IsCut (λ r. leb r.user.cell.0 c.args.cell.0) l c.count_up_to-count.result) rest c.count_up_to-count.ensures.cut)
    (ap (take c.count_up_to-count.result) rest)

use Rattle.cell_hold.proofs.Indexing.{in_turn, own_row}
use Rattle.cell_hold.proofs.sections.sections_near.Goals as goal

pub slice_bounds-result-count : goal.slice_bounds-result-count
slice_bounds-result-count c =
    in_turn c.args.cell.0 c.args.places.now c.count_lower_near-start.result c.count_from-end.result c.count_from-end.ensures.bound c.count_lower_near-start.ensures.lower c.count_from-end.ensures.up_to c.count_lower_near-start.ensures.bound

pub slice_bounds-result-start : goal.slice_bounds-result-start
slice_bounds-result-start c =
    in_turn c.args.cell.0 c.args.places.now c.count_lower_near-start.result c.count_from-end.result c.count_from-end.ensures.bound c.count_lower_near-start.ensures.lower c.count_from-end.ensures.up_to c.count_lower_near-start.ensures.bound

pub returns : goal.returns
returns c =
    own_row c.args.cell.0 c.args.places.now c.count_lower_near-start.result c.count_from-end.result c.count_from-end.ensures.bound c.count_lower_near-start.ensures.lower c.count_from-end.ensures.up_to c.count_lower_near-start.ensures.bound

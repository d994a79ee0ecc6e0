use Rattle.cell_hold.proofs.Indexing.{in_turn, own_row}
use Rattle.cell_hold.proofs.sections.sections_of.Goals as goal

pub slice_bounds-result-count : goal.slice_bounds-result-count
slice_bounds-result-count c =
    in_turn c.args.cell.0 c.args.places.now c.count_lower-start.result c.count_up_to-end.result c.count_up_to-end.ensures.bound c.count_lower-start.ensures.lower c.count_up_to-end.ensures.up_to c.count_lower-start.ensures.bound

pub slice_bounds-result-start : goal.slice_bounds-result-start
slice_bounds-result-start c =
    in_turn c.args.cell.0 c.args.places.now c.count_lower-start.result c.count_up_to-end.result c.count_up_to-end.ensures.bound c.count_lower-start.ensures.lower c.count_up_to-end.ensures.up_to c.count_lower-start.ensures.bound

pub returns : goal.returns
returns c =
    own_row c.args.cell.0 c.args.places.now c.count_lower-start.result c.count_up_to-end.result c.count_up_to-end.ensures.bound c.count_lower-start.ensures.lower c.count_up_to-end.ensures.up_to c.count_lower-start.ensures.bound

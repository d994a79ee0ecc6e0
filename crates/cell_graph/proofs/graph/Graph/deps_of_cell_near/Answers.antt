use Rattle.std.proofs.Common.{List, eqb, map, sym, ap, subst, ◌∙◌}
use Rattle.std.specs.Prelude.{filter}
use Rattle.std.specs.List.{AllByRecursion}
use Rattle.slab.specs.Slab.{get}
use Rattle.cell_graph.specs.declared.order.RowPlace.{RowPlace}
use Rattle.cell_graph.specs.Listed.{IsListed}
use Rattle.cell_graph.specs.Places.{link_at}
use Rattle.cell_graph.proofs.Ranges.{all_drop, all_take, cell_in_range}
use Rattle.cell_graph.proofs.graph.Graph.deps_of_cell_near.Goals as goal

pub of-requires : goal.of-requires
of-requires c =
    let range = c.cell_rows_counted-list.ensures in
    let at = get c.self.inside.rows in
    subst (λ (l : List RowPlace). AllByRecursion (λ r. IsListed at r) l) (sym range.is)
    (all_drop (λ r. IsListed at r) range.start _ (all_take (λ r. IsListed at r) range.end c.self.inside.row_list.items c.self.invariant.rows_listed.stand))

pub returns : goal.returns
returns c =
    let range = c.cell_rows_counted-list.ensures in
    let at = get c.self.inside.rows in
    c.of.ensures
    ∙ ap (map (link_at at)) range.is
    ∙ cell_in_range at c.args.cell.0 c.self.inside.row_list.items range.start range.end range.end_cut range.start_cut
    ∙ ap (λ v. filter (λ r. eqb r.user.cell.0 c.args.cell.0) v.rows) c.self.view_is

use Rattle.std.proofs.Common.{List, sym, ap, subst, ◌∙◌}
use Rattle.slab.specs.Slab.{get}
use Rattle.cell_graph.specs.declared.order.RowPlace.{RowPlace}
use Rattle.cell_graph.specs.Links.{links_from}
use Rattle.cell_graph.specs.Listed.{IsListed}
use Rattle.cell_graph.specs.Walks.{named_deps}
use Rattle.std.specs.List.{AllByRecursion}
use Rattle.cell_graph.proofs.Ranges.{all_drop, all_take, deps_in_range, permutation_same}
use Rattle.cell_graph.proofs.graph.Graph.deps_of.Goals as goal

pub of-requires : goal.of-requires
of-requires c =
    let range = c.of_cell.ensures in
    let at = get c.self.inside.rows in
    subst (λ (l : List RowPlace). AllByRecursion (λ r. IsListed at r) l) (sym range.is)
    (all_drop (λ r. IsListed at r) range.start _ (all_take (λ r. IsListed at r) range.end c.self.inside.row_list.items c.self.invariant.rows_listed.stand))

pub returns : goal.returns
returns c =
    let range = c.of_cell.ensures in
    let at = get c.self.inside.rows in
    permutation_same (links_from c.args.sec c.args.self.now.rows) c.of.result
    (sym (ap (λ v. links_from c.args.sec v.rows) c.self.view_is)
    ∙ sym (deps_in_range at c.args.sec c.self.inside.row_list.items range.start range.end range.end_cut range.start_cut)
    ∙ ap (named_deps at c.args.sec) (sym range.is)
    ∙ sym c.of.ensures)

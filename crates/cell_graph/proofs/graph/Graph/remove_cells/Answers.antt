use Rattle.std.proofs.Common.{◌≡◌, false, List, get_or, sym, subst}
use Rattle.std.specs.List.{All}
use Rattle.cell_world.specs.declared.state.LinkRow.{LinkRow}
use Rattle.cell_graph.specs.Removal.{is_listed, links_without}
use Rattle.cell_graph.proofs.Outside.{none_into}
use Rattle.cell_graph.proofs.Rising.{at_index}
use Rattle.cell_graph.proofs.graph.Graph.remove_cells.Goals as goal

pub remove_sections-requires-clause-unused : goal.remove_sections-requires-clause-unused
remove_sections-requires-clause-unused c =
    let rows = links_without c.args.cells.now c.args.self.now.rows in
    subst (λ (l : List LinkRow). All (λ r. is_listed c.args.cells.now r.target ≡ false) l) (sym c.remove_links.ensures.left)
    (λ k d within. none_into c.args.cells.now c.args.self.now.rows (c.in_default.ensures {u = tt}).none (get_or rows k d) (at_index rows k d within))

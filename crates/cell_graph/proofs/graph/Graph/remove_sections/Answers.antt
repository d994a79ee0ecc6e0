use Rattle.std.proofs.Common.{◌≡◌, false, subst, Contains}
use Rattle.slab.specs.Slab.{get}
use Rattle.cell_world.specs.declared.state.LinkRow.{LinkRow}
use Rattle.cell_graph.specs.Removal.{is_listed}
use Rattle.cell_graph.proofs.Sights.{row_seen}
use Rattle.cell_graph.proofs.graph.Graph.remove_sections.Goals as goal

pub invariant_of-self : goal.invariant_of-self
invariant_of-self g c =
    c.remove_sections.ensures.whole (get c.self.inside.rows) c.self.inside.row_list.items c.self.invariant
    (λ p row is.
    let has = subst (λ v. Contains v.rows row.row) c.self.view_is (row_seen (get c.self.inside.rows) c.self.inside.row_list.items c.self.invariant.rows_listed p row is) in
    subst (λ (l : LinkRow). is_listed c.args.cells.now l.target ≡ false) has.2 (c.requires.unused has.0 row.row has.1))

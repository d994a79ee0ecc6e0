use Rattle.std.proofs.Common.{subst}
use Rattle.slab.specs.Slab.{get}
use Rattle.cell_graph.specs.Order.{Rises, below_link, below_section}
use Rattle.cell_graph.specs.Places.{link_at}
use Rattle.cell_graph.proofs.Sights.{rises_mapped}
use Rattle.cell_graph.proofs.graph.Graph.in_order.Goals as goal

pub returns-clause-sections : goal.returns-clause-sections
returns-clause-sections c =
    subst (λ v. Rises below_section v.sections) c.self.view_is (rises_mapped (λ s. s.key) below_section c.self.inside.section_list.items c.self.invariant.sections_listed.rise)

pub returns-clause-rows : goal.returns-clause-rows
returns-clause-rows c =
    subst (λ v. Rises below_link v.rows) c.self.view_is (rises_mapped (link_at (get c.self.inside.rows)) below_link c.self.inside.row_list.items c.self.invariant.rows_listed.rise)

use Rattle.std.proofs.Common.{sym, ap, ◌∙◌}
use Rattle.slab.specs.Slab.{get}
use Rattle.cell_graph.specs.Links.{is_bound}
use Rattle.cell_graph.proofs.Listing.{bound_listed}
use Rattle.cell_graph.proofs.graph.Graph.bind_counted.Goals as goal

pub bind_row-requires-clause-unbound : goal.bind_row-requires-clause-unbound
bind_row-requires-clause-unbound g c =
    sym (bound_listed (get c.self.inside.rows) c.self.inside.row_list.items c.args.row.user c.args.row.entry)
    ∙ ap (λ v. is_bound v.rows c.args.row.user c.args.row.entry) c.self.view_is
    ∙ c.requires.unbound

use Rattle.std.proofs.Common.{sym, ap, ◌∙◌}
use Rattle.slab.specs.Slab.{get}
use Rattle.cell_graph.specs.Links.{is_bound}
use Rattle.cell_graph.proofs.Listing.{bound_listed}
use Rattle.cell_graph.proofs.graph.Graph.move_one.Goals as goal

pub move_row-requires-clause-bound : goal.move_row-requires-clause-bound
move_row-requires-clause-bound g c =
    sym (bound_listed (get c.self.inside.rows) c.self.inside.row_list.items c.args.to.user c.args.to.entry)
    ∙ ap (λ v. is_bound v.rows c.args.to.user c.args.to.entry) c.self.view_is
    ∙ c.requires.bound

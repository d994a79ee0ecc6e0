use Rattle.std.proofs.Common.{◌∙◌, ap, subst, sym}
use Rattle.cell_graph.specs.Several.{AreThere, all_unlinked}
use Rattle.cell_graph.proofs.graph.Graph.unbind_all.Goals as goal

pub unbind_rows-requires-clause-there : goal.unbind_rows-requires-clause-there
unbind_rows-requires-clause-there g c = subst (λ v. AreThere v.rows c.args.gone.now) (sym c.self.view_is) c.requires

pub returns-clause-gone : goal.returns-clause-gone
returns-clause-gone g c = c.unbind_rows.ensures.left ∙ ap (λ v. all_unlinked v.rows c.args.gone.now) c.self.view_is

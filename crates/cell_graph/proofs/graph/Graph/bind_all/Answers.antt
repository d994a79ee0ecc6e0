use Rattle.std.proofs.Common.{◌∙◌, ap, subst, sym}
use Rattle.std.specs.Prelude.{All, Contains}
use Rattle.cell_world.specs.declared.state.LinkRow.{LinkRow}
use Rattle.cell_graph.specs.Several.{AreNew, all_linked}
use Rattle.cell_graph.proofs.graph.Graph.bind_all.Goals as goal

pub bind_rows-requires-clause-unbound : goal.bind_rows-requires-clause-unbound
bind_rows-requires-clause-unbound g c = subst (λ v. AreNew v.rows c.args.new.now) (sym c.self.view_is) c.requires.unbound

pub bind_rows-requires-clause-present : goal.bind_rows-requires-clause-present
bind_rows-requires-clause-present g c = subst (λ v. All (λ (r : LinkRow). Contains v.sections r.target) c.args.new.now) (sym c.self.view_is) c.requires.target

pub returns-clause-added : goal.returns-clause-added
returns-clause-added g c = c.bind_rows.ensures.added ∙ ap (λ v. all_linked v.rows c.args.new.now) c.self.view_is

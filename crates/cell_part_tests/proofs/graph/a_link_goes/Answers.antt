use Rattle.std.proofs.Common.{refl, sym, ap, subst, ◌∙◌, List, [], Contains}
use Rattle.cell_world.specs.declared.state.LinkRow.{LinkRow}
use Rattle.cell_graph.specs.Order.{with_link}
use Rattle.cell_graph.proofs.Rising.{Contains-head}
use Rattle.cell_world.specs.World.{key_of}
use Rattle.cell_part_tests.proofs.Sample.{has}
use Rattle.cell_part_tests.proofs.graph.a_link_goes.Goals as goal

pub bind-requires-clause-user : goal.bind-requires-clause-user
bind-requires-clause-user g c = has _ _ (key_of 1 1) c.in_ok-graph.ensures.sections (ap (λ r. r.user) c.link-row.ensures ∙ c.key.ensures) refl

pub bind-requires-clause-target : goal.bind-requires-clause-target
bind-requires-clause-target g c = has _ _ (key_of 2 1) c.in_ok-graph.ensures.sections (ap (λ r. r.target) c.link-row.ensures ∙ c.key-2.ensures) refl

pub unbind_with-requires-clause-there : goal.unbind_with-requires-clause-there
unbind_with-requires-clause-there g c =
    (subst (λ (rows : List LinkRow). Contains rows c.link-row.result) (sym (c.bind.ensures.added ∙ ap (with_link c.link-row.result) c.in_ok-graph.ensures.rows)) (Contains-head c.link-row.result []), tt)

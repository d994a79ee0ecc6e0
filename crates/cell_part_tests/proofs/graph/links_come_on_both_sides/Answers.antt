use Rattle.std.proofs.Common.{refl, ap, ◌∙◌, List, [], ◌∷◌}
use Rattle.cell_world.specs.World.{key_of}
use Rattle.cell_world.specs.declared.state.LinkRow.{LinkRow}
use Rattle.cell_graph.specs.Order.{with_link}
use Rattle.cell_part_tests.proofs.Sample.{has, new_both, rising_both, two_there}
use Rattle.cell_part_tests.proofs.graph.links_come_on_both_sides.Goals as goal

pub bind-requires-clause-user : goal.bind-requires-clause-user
bind-requires-clause-user g c = has _ _ (key_of 2 2) c.in_ok-graph.ensures.sections (ap (λ (r : LinkRow). r.user) c.row-second.ensures) refl

pub bind-requires-clause-target : goal.bind-requires-clause-target
bind-requires-clause-target g c = has _ _ (key_of 3 1) c.in_ok-graph.ensures.sections (ap (λ (r : LinkRow). r.target) c.row-second.ensures) refl

pub bind_with-requires-clause-rising : goal.bind_with-requires-clause-rising
bind_with-requires-clause-rising g c = rising_both c.row-first.result c.row-third.result c.row-first.ensures c.row-third.ensures

pub bind_with-requires-clause-unbound : goal.bind_with-requires-clause-unbound
bind_with-requires-clause-unbound g c =
    new_both _ c.row-first.result c.row-third.result
    (c.bind.ensures.added ∙ (ap (with_link c.row-second.result) c.in_ok-graph.ensures.rows ∙ ap (λ (r : LinkRow). r ∷ []) c.row-second.ensures))
    c.row-first.ensures c.row-third.ensures

pub bind_with-requires-clause-target : goal.bind_with-requires-clause-target
bind_with-requires-clause-target g c =
    let are = c.bind.ensures.same_sections ∙ c.in_ok-graph.ensures.sections in
    two_there _ c.row-first.result c.row-third.result
    (has _ _ (key_of 3 1) are (ap (λ (r : LinkRow). r.target) c.row-first.ensures) refl)
    (has _ _ (key_of 3 1) are (ap (λ (r : LinkRow). r.target) c.row-third.ensures) refl)

use Rattle.std.proofs.Common.{refl, ap, ◌∙◌}
use Rattle.cell_world.specs.World.{key_of}
use Rattle.cell_part_tests.proofs.Sample.{has}
use Rattle.cell_part_tests.proofs.graph.cells_go_together.Goals as goal

pub bind-requires-clause-user : goal.bind-requires-clause-user
bind-requires-clause-user g c = has _ _ (key_of 2 1) (c.in_ok-graph.ensures.sections) (ap (λ r. r.user) c.link.ensures ∙ c.key-b.ensures) refl

pub bind-requires-clause-target : goal.bind-requires-clause-target
bind-requires-clause-target g c = has _ _ (key_of 3 1) (c.in_ok-graph.ensures.sections) (ap (λ r. r.target) c.link.ensures ∙ c.key-c.ensures) refl

pub bind-requires-2-clause-user : goal.bind-requires-2-clause-user
bind-requires-2-clause-user g c = has _ _ (key_of 3 1) (c.bind.ensures.same_sections ∙ c.in_ok-graph.ensures.sections) (ap (λ r. r.user) c.link-2.ensures ∙ c.key-c.ensures) refl

pub bind-requires-2-clause-target : goal.bind-requires-2-clause-target
bind-requires-2-clause-target g c = has _ _ (key_of 2 1) (c.bind.ensures.same_sections ∙ c.in_ok-graph.ensures.sections) (ap (λ r. r.target) c.link-2.ensures ∙ c.key-b.ensures) refl

pub weak-kept-requires : goal.weak-kept-requires
weak-kept-requires g c = has _ _ (key_of 1 1) (c.bind-2.ensures.same_sections ∙ (c.bind.ensures.same_sections ∙ c.in_ok-graph.ensures.sections)) (c.key-a.ensures) refl

pub weak-gone-requires : goal.weak-gone-requires
weak-gone-requires g c = has _ _ (key_of 2 1) (c.bind-2.ensures.same_sections ∙ (c.bind.ensures.same_sections ∙ c.in_ok-graph.ensures.sections)) (c.key-b.ensures) refl

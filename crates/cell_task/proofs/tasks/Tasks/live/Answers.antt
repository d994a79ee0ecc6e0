use Rattle.std.proofs.Common.{sym, ap, map, ◌∙◌}
use Rattle.cell_task.proofs.Places.{numbers_are}
use Rattle.cell_task.proofs.tasks.Tasks.live.Goals as goal

pub returns : goal.returns
returns c =
    c.of.ensures ∙ c.deref.ensures.value ∙ sym (numbers_are c.self.inside c.self.invariant) ∙ ap (λ s. map (λ t. t.number) s.tasks) c.self.view_is

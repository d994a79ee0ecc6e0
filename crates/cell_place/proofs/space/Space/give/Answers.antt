use Rattle.std.proofs.Common.{ap, ◌∙◌}
use Rattle.cell_world.specs.Placed.Pages.{is_taken_run}
use Rattle.cell_place.proofs.Table.{taken_inside}
use Rattle.cell_place.proofs.space.Space.give.Goals as goal

pub fill-requires : goal.fill-requires
fill-requires c wanted =
    rw c.deref_mut.ensures.value
    (taken_inside c.self.inside.taken.items c.args.run.page c.args.run.count
    (ap (λ s. is_taken_run s.taken c.args.run.page c.args.run.count) c.self.view_is ∙ c.requires) wanted)

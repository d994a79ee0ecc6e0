use Rattle.std.proofs.Common.{◌∙◌}
use Rattle.cell_relinked.proofs.scene.Scene.entries.Goals as goal

pub all_named-requires-clause-asking : goal.all_named-requires-clause-asking
all_named-requires-clause-asking c = record { are = c.in_ok-sights.ensures.are; group = c.in_ok-sights.ensures.group; spaces = c.in_ok-sights.ensures.spaces ∙ (c.deref.ensures.value ∙ c.in_ok-spaces.ensures) }

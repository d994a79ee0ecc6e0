use Rattle.std.proofs.Common.{◌∙◌, ap, ℕ}
use Rattle.std.specs.Prelude.{Option}
use Rattle.cell_audit.specs.Described.{standing_of}
use Rattle.cell_world.specs.Names.{provider_for}
use Rattle.cell_relinked.specs.Scene.{world_of}
use Rattle.cell_compared.proofs.name_lines.provider.Goals as goal

pub returns-clause-provider : goal.returns-clause-provider
returns-clause-provider c =
    let asked = c.args.asked.now in
    c.provider.ensures.provider asked.ns c.requires.asked.spaces
    ∙ ap (λ (g : Option ℕ). provider_for (world_of asked.scene.now) (standing_of g) asked.ns c.args.name.now) c.requires.asked.group

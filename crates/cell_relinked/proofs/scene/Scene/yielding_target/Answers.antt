use Rattle.std.proofs.Common.{ap, ◌∙◌}
use Rattle.std.specs.Prelude.{option_and_then}
use Rattle.cell_audit.specs.Described.{standing_of}
use Rattle.cell_num.specs.Lists.{or_else}
use Rattle.cell_world.specs.Linked.Target.{provided_target}
use Rattle.cell_target.proofs.Asking.{yields}
use Rattle.cell_relinked.specs.Fit.{placed_in}
use Rattle.cell_relinked.specs.Scene.{world_of}
use Rattle.cell_relinked.proofs.Provided.{asked_strongly}
use Rattle.cell_relinked.proofs.scene.Scene.yielding_target.Goals as goal

pub returns : goal.returns
returns c =
    let s = c.args.self.now in
    let symbol = c.args.symbol.now in
    let found = asked_strongly s c.args.cell.now c.args.sights.now c.requires.asking c.strong_provider-provider.result symbol.name (λ ns spaces. c.strong_provider-provider.ensures.provider ns symbol.name spaces c.requires.bearers) in
    c.either.ensures
    ∙ (ap (or_else c.target_of.result) c.own_target.ensures
    ∙ yields (world_of s) (placed_in s.objects.now c.args.cell.now) (standing_of c.args.cell.now.group) symbol c.target_of.result
    (c.target_of.ensures ∙ ap (option_and_then (provided_target (world_of s))) found))

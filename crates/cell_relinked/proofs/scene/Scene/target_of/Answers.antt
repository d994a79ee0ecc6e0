use Rattle.std.proofs.Common.{sym, ap, ◌∙◌}
use Rattle.std.specs.Prelude.{option_and_then, option_map}
use Rattle.cell_bearers.specs.Asked.{provider_at}
use Rattle.cell_world.specs.Linked.Target.{provided_target}
use Rattle.cell_relinked.specs.Scene.{world_of}
use Rattle.cell_relinked.proofs.scene.Scene.target_of.Goals as goal

pub returns-in-Some : goal.returns-in-Some
returns-in-Some c =
    let s = c.args.self.now in
    c.provided_target.ensures ∙ sym (ap (λ o. option_and_then (provided_target (world_of s)) (option_map (provider_at s.cells.now) o)) c.in-Some.is)

pub returns-in-None : goal.returns-in-None
returns-in-None c =
    let s = c.args.self.now in
    sym (ap (λ o. option_and_then (provided_target (world_of s)) (option_map (provider_at s.cells.now) o)) c.in-None.is)

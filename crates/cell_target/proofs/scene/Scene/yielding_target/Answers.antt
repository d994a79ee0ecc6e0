use Rattle.std.proofs.Common.{◌∙◌, ap, List, ℕ, Some, None}
use Rattle.std.specs.Prelude.{Option}
use Rattle.cell_world.specs.declared.state.Target.{Target}
use Rattle.cell_target.specs.Named.{target_named, world_of}
use Rattle.cell_target.specs.declared.asked.Asked.TheVariants.{Strong}
use Rattle.cell_target.proofs.Asking.{yields}
use Rattle.cell_target.proofs.scene.Scene.yielding_target.Goals as goal

pub returns-in-Some-clause-target : goal.returns-in-Some-clause-target
returns-in-Some-clause-target c =
    let w = world_of c.args.self.now in
    yields w c.args.cell.now c.args.state c.args.symbol.now (Some c.in-Some.target)
    (c.in-Some.ensures.target ∙ ap (λ (name : List ℕ). target_named w Strong c.args.cell.now.ns c.args.state name) c.as_slice.ensures)

pub returns-in-None-clause-target : goal.returns-in-None-clause-target
returns-in-None-clause-target c =
    let w = world_of c.args.self.now in
    let none : Option Target = None in
    c.own_target.ensures
    ∙ yields w c.args.cell.now c.args.state c.args.symbol.now none
    (c.in-None.ensures.target ∙ ap (λ (name : List ℕ). target_named w Strong c.args.cell.now.ns c.args.state name) c.as_slice.ensures)

use Rattle.std.proofs.Common.{◌∙◌, ap, sym, List, ℕ, Some, None}
use Rattle.std.specs.Prelude.{Option}
use Rattle.cell_world.specs.declared.state.Target.{Target}
use Rattle.cell_target.specs.Named.{target_named, world_of}
use Rattle.cell_target.specs.declared.asked.Asked.TheVariants.{Anyone}
use Rattle.cell_target.proofs.Asking.{asked_is, local_is}
use Rattle.cell_target.proofs.scene.Scene.undefined_target.Goals as goal

pub returns-then-is_local-clause-target : goal.returns-then-is_local-clause-target
returns-then-is_local-clause-target c = local_is (world_of c.args.self.now) c.args.state c.args.symbol.now c.args.ns (sym c.is_local.ensures ∙ c.if-is_local.true)

pub returns-in-Some-clause-target : goal.returns-in-Some-clause-target
returns-in-Some-clause-target c =
    let w = world_of c.args.self.now in
    asked_is w c.args.state c.args.symbol.now c.args.ns (Some c.in-Some.target) (sym c.is_local.ensures ∙ c.if-is_local.false)
    (c.in-Some.ensures.target ∙ ap (λ (name : List ℕ). target_named w Anyone c.args.ns c.args.state name) c.as_slice.ensures)

pub returns-in-None-clause-target : goal.returns-in-None-clause-target
returns-in-None-clause-target c =
    let w = world_of c.args.self.now in
    let none : Option Target = None in
    c.unprovided.ensures
    ∙ asked_is w c.args.state c.args.symbol.now c.args.ns none (sym c.is_local.ensures ∙ c.if-is_local.false)
    (c.in-None.ensures.target ∙ ap (λ (name : List ℕ). target_named w Anyone c.args.ns c.args.state name) c.as_slice.ensures)

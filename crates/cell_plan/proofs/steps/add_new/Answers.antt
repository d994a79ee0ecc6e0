use Rattle.std.proofs.Common.{◌≡◌, subst, sym, refl, [], ◌∷◌, Option, None}
use Rattle.cell_commit.specs.declared.wiring.Rewiring.{Rewiring}
use Rattle.cell_world.specs.declared.state.LinkRow.{LinkRow}
use Rattle.cell_plan.specs.Steps.{HasSteps}
use Rattle.cell_plan.proofs.Stepping.{bind_added, nothing_added}
use Rattle.cell_plan.proofs.steps.add_new.Goals as goal

pub returns-in_ok-push-in-Some-clause-links : goal.returns-in_ok-push-in-Some-clause-links
returns-in_ok-push-in-Some-clause-links c =
    let now : Rewiring = record c.args.into.now { binds = c.push.new.self } in
    subst (λ (o : Option LinkRow). HasSteps (record { before = None; after = o } ∷ []) c.args.into.now now) (sym c.in-Some.is)
    (bind_added c.in-Some.link c.args.into.now now refl (c.in_ok-push-in-Some.ensures {u = tt}).items)

pub returns-in-None-clause-links : goal.returns-in-None-clause-links
returns-in-None-clause-links c =
    subst (λ (o : Option LinkRow). HasSteps (record { before = None; after = o } ∷ []) c.args.into.now c.args.into.now) (sym c.in-None.is) (nothing_added c.args.into.now)

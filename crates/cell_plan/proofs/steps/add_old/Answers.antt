use Rattle.std.proofs.Common.{◌≡◌, subst, sym, refl, [], ◌∷◌, Option, Some}
use Rattle.std.specs.Prelude.{IfOk, OnOk}
use Rattle.cell_commit.specs.declared.wiring.Rewiring.{Rewiring}
use Rattle.cell_world.specs.declared.state.LinkRow.{LinkRow}
use Rattle.cell_plan.specs.Steps.{HasSteps, is_change}
use Rattle.cell_plan.proofs.Stepping.{unbind_added}
use Rattle.cell_plan.proofs.steps.add_old.Goals as goal

pub returns-in-Some-clause-change : goal.returns-in-Some-clause-change
returns-in-Some-clause-change c =
    subst (λ (o : Option LinkRow). IfOk c.add_move.result (λ change. change ≡ is_change (record { before = Some c.args.link; after = o }))) (sym c.in-Some.is) c.add_move.ensures.change

pub returns-in-Some-clause-links : goal.returns-in-Some-clause-links
returns-in-Some-clause-links c =
    subst (λ (o : Option LinkRow). OnOk c.add_move.result (HasSteps (record { before = Some c.args.link; after = o } ∷ []) c.args.into.now c.add_move.new.into)) (sym c.in-Some.is) c.add_move.ensures.links

pub returns-in_ok-push-in-None-clause-links : goal.returns-in_ok-push-in-None-clause-links
returns-in_ok-push-in-None-clause-links c =
    let now : Rewiring = record c.args.into.now { unbinds = c.push.new.self } in
    subst (λ (o : Option LinkRow). HasSteps (record { before = Some c.args.link; after = o } ∷ []) c.args.into.now now) (sym c.in-None.is)
    (unbind_added c.args.link c.args.into.now now refl (c.in_ok-push-in-None.ensures {u = tt}).items)

use Rattle.std.proofs.Common.{◌≡◌, subst, sym, [], ◌∷◌, Option}
use Rattle.std.specs.Prelude.{IfOk, OnOk}
use Rattle.cell_world.specs.declared.state.LinkRow.{LinkRow}
use Rattle.cell_plan.specs.Steps.{HasSteps, is_change}
use Rattle.cell_plan.proofs.steps.add_step.Goals as goal

pub returns-in-Some-clause-change : goal.returns-in-Some-clause-change
returns-in-Some-clause-change c =
    subst (λ (o : Option LinkRow). IfOk c.add_old.result (λ change. change ≡ is_change (record { before = o; after = c.args.after }))) (sym c.in-Some.is) c.add_old.ensures.change

pub returns-in-Some-clause-links : goal.returns-in-Some-clause-links
returns-in-Some-clause-links c =
    subst (λ (o : Option LinkRow). OnOk c.add_old.result (HasSteps (record { before = o; after = c.args.after } ∷ []) c.args.into.now c.add_old.new.into)) (sym c.in-Some.is) c.add_old.ensures.links

pub returns-in-None-clause-change : goal.returns-in-None-clause-change
returns-in-None-clause-change c =
    subst (λ (o : Option LinkRow). IfOk c.add_new.result (λ change. change ≡ is_change (record { before = o; after = c.args.after }))) (sym c.in-None.is) c.add_new.ensures.change

pub returns-in-None-clause-links : goal.returns-in-None-clause-links
returns-in-None-clause-links c =
    subst (λ (o : Option LinkRow). OnOk c.add_new.result (HasSteps (record { before = o; after = c.args.after } ∷ []) c.args.into.now c.add_new.new.into)) (sym c.in-None.is) c.add_new.ensures.links

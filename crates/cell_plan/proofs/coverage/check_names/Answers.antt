use Rattle.std.proofs.Common.{sym, ap, ◌∙◌, ℕ, List, Bor}
use Rattle.std.specs.Prelude.{Some, find, option_map}
use Rattle.cell_world.specs.declared.refusal.Refusal.TheVariants.{Missing}
use Rattle.cell_plan.proofs.Lacking.{lost_is, nobody}
use Rattle.cell_plan.proofs.coverage.check_names.Goals as goal

pub returns-in-Some : goal.returns-in-Some
returns-in-Some c = λ w ahead.
    lost_is w c.args.ahead.now ahead c.args.cell.now c.args.state _ (c.in_ok-names.ensures {u = tt})
    ∙ (ap (λ (names : List (List ℕ)). option_map (λ name. Missing name c.args.cell.now.id) (find (nobody w c.args.ahead.now ahead c.args.cell.now c.args.state) names)) (sym c.deref.ensures.value)
    ∙ (ap (option_map (λ name. Missing name c.args.cell.now.id)) (sym c.first_lacking.ensures ∙ ap (option_map (λ (name : Bor (List ℕ)). name.now)) c.in-Some.is)
    ∙ ap (λ r. Some r) (sym (c.in_ok-missing-in-Some.ensures {u = tt}))))

pub returns : goal.returns
returns c = λ w ahead.
    lost_is w c.args.ahead.now ahead c.args.cell.now c.args.state _ (c.in_ok-names.ensures {u = tt})
    ∙ (ap (λ (names : List (List ℕ)). option_map (λ name. Missing name c.args.cell.now.id) (find (nobody w c.args.ahead.now ahead c.args.cell.now c.args.state) names)) (sym c.deref.ensures.value)
    ∙ ap (option_map (λ name. Missing name c.args.cell.now.id)) (sym c.first_lacking.ensures ∙ ap (option_map (λ (name : Bor (List ℕ)). name.now)) c.in-None.is))

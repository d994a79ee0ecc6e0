use Rattle.std.proofs.Common.{sym, ◌∙◌, subst}
use Rattle.std.specs.Prelude.{Option}
use Rattle.cell_world.specs.declared.refusal.Refusal.{Refusal}
use Rattle.cell_plan.specs.Coverage.{Covers}
use Rattle.cell_plan.proofs.Lacking.{old_needs_nothing, other_needs}
use Rattle.cell_plan.proofs.coverage.check_user.Goals as goal

pub returns-then-has-clause-covers : goal.returns-then-has-clause-covers
returns-then-has-clause-covers c = λ w ahead. old_needs_nothing w c.args.spaces.now _ c.args.cell.now (sym c.has.ensures ∙ c.if-has.true)

pub returns-clause-covers : goal.returns-clause-covers
returns-clause-covers c = λ w ahead.
    subst (λ (o : Option Refusal). Covers o c.check_cell.result) (sym (other_needs w c.args.spaces.now _ c.args.cell.now (sym c.has.ensures ∙ c.if-has.false) c.state.result c.state.ensures)) (c.check_cell.ensures.covers w ahead)

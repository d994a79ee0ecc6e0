use Rattle.std.proofs.Common.{Bor, List, map, sym, ◌∙◌, ap, subst}
use Rattle.std.proofs.lemmas.Result.{err_from_is_err_and}
use Rattle.std.specs.Prelude.{Err}
use Rattle.cell_world.specs.declared.state.NewCell.{NewCell}
use Rattle.cell_plan.specs.Coverage.{Covers, first_lost, others_in}
use Rattle.cell_change.specs.Planning.{numbers_in}
use Rattle.cell_change.proofs.Decision.Covered.{G, is_ahead, covered_there}
use Rattle.cell_change.proofs.Decision.PlanSteps.{all_covered, coverage_failed, gather_failed, users_known, users_spaces}
use Rattle.cell_change.proofs.planning.find_new.Goals as goal

pub returns-in_err-gathered : goal.returns-in_err-gathered
returns-in_err-gathered c =
    let p = err_from_is_err_and c.from_residual.result c.from_residual.ensures.1 in
    rw (p.1, p.2) (λ b. gather_failed c.args.depot.now c.args.asked.now c.args.machine.now b c.in_err-gathered.field-0.0 (c.in_err-gathered.ensures b))

pub check_coverage-requires-clause-there : goal.check_coverage-requires-clause-there
check_coverage-requires-clause-there c = rw c.deref.ensures.value (users_known c.args.depot.now c.args.asked.now c.args.machine.now c.requires.begun c.args.affected.now c.requires.affected)

pub check_coverage-requires-clause-ns : goal.check_coverage-requires-clause-ns
check_coverage-requires-clause-ns c =
    rw c.deref.ensures.value (users_spaces c.args.depot.now c.args.asked.now c.args.machine.now c.requires.begun c.args.affected.now c.requires.affected c.in_ok-gathered.gathered (c.in_ok-gathered.ensures c.requires.begun))

pub returns-in_err-check_coverage : goal.returns-in_err-check_coverage
returns-in_err-check_coverage c =
    let p = err_from_is_err_and c.from_residual-in_err-check_coverage.result c.from_residual-in_err-check_coverage.ensures.1 in
    rw (p.1, p.2)
    (λ b.
    let g = c.in_ok-gathered.gathered in
    let gathered = c.in_ok-gathered.ensures b in
    coverage_failed c.args.depot.now c.args.asked.now c.args.machine.now b c.args.affected.now c.requires.affected g gathered c.in_err-check_coverage.field-0.0
    (subst
    (λ (us : List (Bor NewCell)). Covers (first_lost (G c.args.depot.now c.args.asked.now c.args.machine.now b g gathered) (others_in c.args.machine.now.spaces (numbers_in c.args.affected.now) (map (λ x. x.now) us))) (Err c.in_err-check_coverage.field-0.0)) c.deref.ensures.value
    (c.in_err-check_coverage.ensures (G c.args.depot.now c.args.asked.now c.args.machine.now b g gathered) (is_ahead c.args.depot.now c.args.asked.now c.args.machine.now b g gathered))))

pub returns : goal.returns
returns c b =
    let g = c.in_ok-gathered.gathered in
    let gathered = c.in_ok-gathered.ensures b in
    record {
      gathered = gathered;
      covered =
          covered_there c.args.depot.now c.args.asked.now c.args.machine.now b g gathered
          (all_covered c.args.depot.now c.args.asked.now c.args.machine.now b c.args.affected.now c.requires.affected g gathered
          (ap (λ (us : List (Bor NewCell)). first_lost (G c.args.depot.now c.args.asked.now c.args.machine.now b g gathered) (others_in c.args.machine.now.spaces (numbers_in c.args.affected.now) (map (λ x. x.now) us))) (sym c.deref.ensures.value)
          ∙ c.in_ok-check_coverage.ensures (G c.args.depot.now c.args.asked.now c.args.machine.now b g gathered) (is_ahead c.args.depot.now c.args.asked.now c.args.machine.now b g gathered)));
    }

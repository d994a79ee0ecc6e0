use Rattle.std.proofs.Common.{Global, List, Vec, sym, subst, map, ◌∙◌}
use Rattle.std.proofs.lemmas.Result.{err_from_is_err_and}
use Rattle.std.specs.Prelude.{ℕ, All, Err, option_map}
use Rattle.cell_load.specs.Stages.{Lands}
use Rattle.cell_world.specs.declared.state.NewCell.{NewCell}
use Rattle.cell_world.specs.Coherent.{IsLoadable}
use Rattle.cell_world.specs.Following.{FailsAs}
use Rattle.cell_world.specs.Commands.SwapTransfer.{begins_of}
use Rattle.cell_world.specs.World.{attached}
use Rattle.cell_hold.specs.declared.roots.Root.{Root}
use Rattle.cell_change.specs.Planning.{Looks}
use Rattle.cell_change.proofs.Decision.Covered.{G, covered_here}
use Rattle.cell_routines.specs.Begins.{begin_as}
use Rattle.cell_change.proofs.Decision.Planned.{can_stage}
use Rattle.cell_change.proofs.Decision.PlanSteps.{again_failed, are_ahead, begins_failed, begun_as, cells_are, changing_failed, has_place, is_plan, know_origins, landing_failed, may_change, not_found, sections_ordered, spans_so, stack_as, standing_failed, tasks_ordered, users_there}
use Rattle.cell_change.proofs.planning.plan_change.Goals as goal

pub returns-in_err-gathered : goal.returns-in_err-gathered
returns-in_err-gathered c =
    let p = err_from_is_err_and c.from_residual-in_err-gathered.result c.from_residual-in_err-gathered.ensures.1 in
    rw (p.1, p.2) (λ b. not_found c.args.depot.now c.args.asked.now c.args.machine.now b (option_map (λ (list : Vec Root Global). list.items) c.args.roots) c.in_err-gathered.field-0.0 (c.in_err-gathered.ensures b))

pub begins_of-requires : goal.begins_of-requires
begins_of-requires c =
    let found = c.in_ok-gathered.ensures c.requires in
    let covered = covered_here c.args.depot.now c.args.asked.now c.args.machine.now c.requires c.in_ok-gathered.gathered found.gathered found.covered in
    subst (λ (cs : List NewCell). All (λ d. IsLoadable d.object) cs) (sym c.deref.ensures.value) found.gathered.are.objects

pub returns-in_err-begins : goal.returns-in_err-begins
returns-in_err-begins c =
    let p = err_from_is_err_and c.from_residual-in_err-begins.result c.from_residual-in_err-begins.ensures.1 in
    rw (p.1, p.2)
    (λ b.
    let found = c.in_ok-gathered.ensures b in
    let covered = covered_here c.args.depot.now c.args.asked.now c.args.machine.now b c.in_ok-gathered.gathered found.gathered found.covered in
    begins_failed c.args.depot.now c.args.asked.now c.args.machine.now b c.in_ok-affected.affected (c.in_ok-affected.ensures {u = tt}) c.in_ok-gathered.gathered found.gathered covered (option_map (λ (list : Vec Root Global). list.items) c.args.roots) c.in_err-begins.field-0.0
    (subst (λ (cs : List NewCell). FailsAs c.in_err-begins.field-0.0 (begins_of (map attached cs) c.args.asked.now.options.routines.now)) c.deref.ensures.value c.in_err-begins.ensures.begins))

pub begin_again-requires : goal.begin_again-requires
begin_again-requires c =
    know_origins c.args.depot.now c.args.asked.now c.args.machine.now c.requires c.in_ok-affected.affected (c.in_ok-affected.ensures {u = tt}) c.in_ok-gathered.gathered (c.in_ok-gathered.ensures c.requires).gathered

pub returns-in_err-again : goal.returns-in_err-again
returns-in_err-again c =
    let p = err_from_is_err_and c.from_residual-in_err-again.result c.from_residual-in_err-again.ensures.1 in
    rw (p.1, p.2)
    (λ b.
    let found = c.in_ok-gathered.ensures b in
    let covered = covered_here c.args.depot.now c.args.asked.now c.args.machine.now b c.in_ok-gathered.gathered found.gathered found.covered in
    let begun = begun_as c.args.asked.now.options.routines.now c.in_ok-gathered.gathered c.in_ok-begins.begins.items c.deref.result.now c.deref.ensures.value c.in_ok-begins.ensures.begins in
    again_failed c.args.depot.now c.args.asked.now c.args.machine.now b c.in_ok-affected.affected (c.in_ok-affected.ensures {u = tt}) c.in_ok-gathered.gathered found.gathered covered (map begin_as c.in_ok-begins.begins.items) begun
    (option_map (λ (list : Vec Root Global). list.items) c.args.roots) c.in_err-again.field-0.0
    (c.in_err-again.ensures (G c.args.depot.now c.args.asked.now c.args.machine.now b c.in_ok-gathered.gathered found.gathered) (are_ahead c.args.depot.now c.args.asked.now c.args.machine.now b c.in_ok-affected.affected (c.in_ok-affected.ensures {u = tt}) c.in_ok-gathered.gathered found.gathered)))

pub land-requires : goal.land-requires
land-requires c =
    let found = c.in_ok-gathered.ensures c.requires in
    let covered = covered_here c.args.depot.now c.args.asked.now c.args.machine.now c.requires c.in_ok-gathered.gathered found.gathered found.covered in
    can_stage c.args.depot.now c.args.asked.now c.args.machine.now c.requires c.in_ok-gathered.gathered found.gathered covered

pub returns-in_err-landed : goal.returns-in_err-landed
returns-in_err-landed c =
    let p = err_from_is_err_and c.from_residual-in_err-landed.result c.from_residual-in_err-landed.ensures.1 in
    rw (p.1, p.2)
    (λ b.
    let found = c.in_ok-gathered.ensures b in
    let covered = covered_here c.args.depot.now c.args.asked.now c.args.machine.now b c.in_ok-gathered.gathered found.gathered found.covered in
    let begun = begun_as c.args.asked.now.options.routines.now c.in_ok-gathered.gathered c.in_ok-begins.begins.items c.deref.result.now c.deref.ensures.value c.in_ok-begins.ensures.begins in
    let begins_so = c.in_ok-again.ensures (G c.args.depot.now c.args.asked.now c.args.machine.now b c.in_ok-gathered.gathered found.gathered) (are_ahead c.args.depot.now c.args.asked.now c.args.machine.now b c.in_ok-affected.affected (c.in_ok-affected.ensures {u = tt}) c.in_ok-gathered.gathered found.gathered) in
    let again = has_place c.args.depot.now c.args.asked.now c.args.machine.now b c.in_ok-affected.affected (c.in_ok-affected.ensures {u = tt}) c.in_ok-gathered.gathered found.gathered c.in_ok-again.again begins_so in
    landing_failed c.args.depot.now c.args.asked.now c.args.machine.now b c.in_ok-affected.affected (c.in_ok-affected.ensures {u = tt}) c.in_ok-gathered.gathered found.gathered covered (map begin_as c.in_ok-begins.begins.items) begun again
    (option_map (λ (list : Vec Root Global). list.items) c.args.roots) c.in_err-landed.field-0.0 (subst (λ (pages : ℕ). Lands c.args.machine.now c.in_ok-gathered.gathered pages (Err c.in_err-landed.field-0.0)) c.stack_pages.ensures (c.in_err-landed.ensures {u = tt})))

pub changed_by-requires-clause-cells : goal.changed_by-requires-clause-cells
changed_by-requires-clause-cells c =
    let found = c.in_ok-gathered.ensures c.requires in
    let covered = covered_here c.args.depot.now c.args.asked.now c.args.machine.now c.requires c.in_ok-gathered.gathered found.gathered found.covered in
    cells_are c.args.depot.now c.args.asked.now c.args.machine.now c.requires c.in_ok-affected.affected (c.in_ok-affected.ensures {u = tt}) c.in_ok-gathered.gathered found.gathered covered c.in_ok-landed.landed (c.in_ok-landed.ensures {u = tt}).0

pub changed_by-requires-clause-there : goal.changed_by-requires-clause-there
changed_by-requires-clause-there c = users_there c.args.depot.now c.args.asked.now c.args.machine.now c.requires c.in_ok-affected.affected (c.in_ok-affected.ensures {u = tt})

pub changed_by-requires-clause-may : goal.changed_by-requires-clause-may
changed_by-requires-clause-may c =
    let found = c.in_ok-gathered.ensures c.requires in
    let covered = covered_here c.args.depot.now c.args.asked.now c.args.machine.now c.requires c.in_ok-gathered.gathered found.gathered found.covered in
    may_change c.args.depot.now c.args.asked.now c.args.machine.now c.requires c.in_ok-affected.affected (c.in_ok-affected.ensures {u = tt}) c.in_ok-gathered.gathered found.gathered covered c.in_ok-landed.landed (c.in_ok-landed.ensures {u = tt}).0

pub returns-in_err-patches : goal.returns-in_err-patches
returns-in_err-patches c =
    let p = err_from_is_err_and c.from_residual-in_err-patches.result c.from_residual-in_err-patches.ensures.1 in
    rw (p.1, p.2)
    (λ b.
    let found = c.in_ok-gathered.ensures b in
    let covered = covered_here c.args.depot.now c.args.asked.now c.args.machine.now b c.in_ok-gathered.gathered found.gathered found.covered in
    let begun = begun_as c.args.asked.now.options.routines.now c.in_ok-gathered.gathered c.in_ok-begins.begins.items c.deref.result.now c.deref.ensures.value (c.in_ok-begins.ensures.begins) in
    let at = stack_as c.args.machine.now c.in_ok-landed.landed c.args.asked.now.options.routines.now c.stack_pages.result c.stack_pages.ensures (c.in_ok-landed.ensures {u = tt}).1 in
    let begins_so = c.in_ok-again.ensures (G c.args.depot.now c.args.asked.now c.args.machine.now b c.in_ok-gathered.gathered found.gathered) (are_ahead c.args.depot.now c.args.asked.now c.args.machine.now b c.in_ok-affected.affected (c.in_ok-affected.ensures {u = tt}) c.in_ok-gathered.gathered found.gathered) in
    let again = has_place c.args.depot.now c.args.asked.now c.args.machine.now b c.in_ok-affected.affected (c.in_ok-affected.ensures {u = tt}) c.in_ok-gathered.gathered found.gathered c.in_ok-again.again begins_so in
    changing_failed c.args.depot.now c.args.asked.now c.args.machine.now b c.in_ok-affected.affected (c.in_ok-affected.ensures {u = tt}) c.in_ok-gathered.gathered found.gathered covered c.in_ok-landed.landed (c.in_ok-landed.ensures {u = tt}).0
    (map begin_as c.in_ok-begins.begins.items) begun again at (option_map (λ (list : Vec Root Global). list.items) c.args.roots) c.in_err-patches.field-0.0 c.in_err-patches.ensures)

pub check_torn-requires : goal.check_torn-requires
check_torn-requires c = tasks_ordered c.args.depot.now c.args.asked.now c.args.machine.now c.requires

pub returns-in_err-check_torn : goal.returns-in_err-check_torn
returns-in_err-check_torn c =
    let p = err_from_is_err_and c.from_residual-in_err-check_torn.result c.from_residual-in_err-check_torn.ensures.1 in
    rw (p.1, p.2)
    (λ b.
    let found = c.in_ok-gathered.ensures b in
    let covered = covered_here c.args.depot.now c.args.asked.now c.args.machine.now b c.in_ok-gathered.gathered found.gathered found.covered in
    let begun = begun_as c.args.asked.now.options.routines.now c.in_ok-gathered.gathered c.in_ok-begins.begins.items c.deref.result.now c.deref.ensures.value (c.in_ok-begins.ensures.begins) in
    let at = stack_as c.args.machine.now c.in_ok-landed.landed c.args.asked.now.options.routines.now c.stack_pages.result c.stack_pages.ensures (c.in_ok-landed.ensures {u = tt}).1 in
    let begins_so = c.in_ok-again.ensures (G c.args.depot.now c.args.asked.now c.args.machine.now b c.in_ok-gathered.gathered found.gathered) (are_ahead c.args.depot.now c.args.asked.now c.args.machine.now b c.in_ok-affected.affected (c.in_ok-affected.ensures {u = tt}) c.in_ok-gathered.gathered found.gathered) in
    let again = has_place c.args.depot.now c.args.asked.now c.args.machine.now b c.in_ok-affected.affected (c.in_ok-affected.ensures {u = tt}) c.in_ok-gathered.gathered found.gathered c.in_ok-again.again begins_so in
    standing_failed c.args.depot.now c.args.asked.now c.args.machine.now b c.in_ok-affected.affected (c.in_ok-affected.ensures {u = tt}) c.in_ok-gathered.gathered found.gathered covered c.in_ok-landed.landed (c.in_ok-landed.ensures {u = tt}).0 c.in_ok-patches.field-0 c.in_ok-patches.ensures
    (map begin_as c.in_ok-begins.begins.items) begun again at (option_map (λ (list : Vec Root Global). list.items) c.args.roots) c.in_err-check_torn.field-0.0
    (c.in_err-check_torn.ensures _ (c.deref-2.ensures.value ∙ spans_so c.args.depot.now c.args.asked.now c.args.machine.now b c.in_ok-affected.affected (c.in_ok-affected.ensures {u = tt}) c.in_ok-gathered.gathered found.gathered covered c.in_ok-landed.landed (c.in_ok-landed.ensures {u = tt}).0 c.in_ok-patches.field-0 c.in_ok-patches.ensures)))

pub look-requires : goal.look-requires
look-requires c =
    let found = c.in_ok-gathered.ensures c.requires in
    let covered = covered_here c.args.depot.now c.args.asked.now c.args.machine.now c.requires c.in_ok-gathered.gathered found.gathered found.covered in
    rw c.deref-3.ensures.value (sections_ordered c.args.depot.now c.args.asked.now c.args.machine.now c.requires c.in_ok-affected.affected (c.in_ok-affected.ensures {u = tt}) c.in_ok-gathered.gathered found.gathered covered c.in_ok-landed.landed (c.in_ok-landed.ensures {u = tt}).0)

pub returns : goal.returns
returns c b =
    let found = c.in_ok-gathered.ensures b in
    let covered = covered_here c.args.depot.now c.args.asked.now c.args.machine.now b c.in_ok-gathered.gathered found.gathered found.covered in
    let begun = begun_as c.args.asked.now.options.routines.now c.in_ok-gathered.gathered c.in_ok-begins.begins.items c.deref.result.now c.deref.ensures.value (c.in_ok-begins.ensures.begins) in
    let at = stack_as c.args.machine.now c.in_ok-landed.landed c.args.asked.now.options.routines.now c.stack_pages.result c.stack_pages.ensures (c.in_ok-landed.ensures {u = tt}).1 in
    let begins_so = c.in_ok-again.ensures (G c.args.depot.now c.args.asked.now c.args.machine.now b c.in_ok-gathered.gathered found.gathered) (are_ahead c.args.depot.now c.args.asked.now c.args.machine.now b c.in_ok-affected.affected (c.in_ok-affected.ensures {u = tt}) c.in_ok-gathered.gathered found.gathered) in
    is_plan c.args.depot.now c.args.asked.now c.args.machine.now b c.in_ok-affected.affected (c.in_ok-affected.ensures {u = tt}) c.in_ok-gathered.gathered found.gathered covered c.in_ok-landed.landed (c.in_ok-landed.ensures {u = tt}).0 c.in_ok-patches.field-0 c.in_ok-patches.ensures
    c.in_ok-begins.begins begun c.in_ok-again.again begins_so at c.in_ok-begins.ensures.low (option_map (λ (list : Vec Root Global). list.items) c.args.roots)
    (c.in_ok-check_torn.ensures _ (c.deref-2.ensures.value ∙ spans_so c.args.depot.now c.args.asked.now c.args.machine.now b c.in_ok-affected.affected (c.in_ok-affected.ensures {u = tt}) c.in_ok-gathered.gathered found.gathered covered c.in_ok-landed.landed (c.in_ok-landed.ensures {u = tt}).0 c.in_ok-patches.field-0 c.in_ok-patches.ensures))
    c.in_ok-outlook.outlook
    (subst (λ (cs : List NewCell). Looks c.args.machine.now cs (option_map (λ (list : Vec Root Global). list.items) c.args.roots) c.in_ok-outlook.outlook) c.deref-3.ensures.value (c.in_ok-outlook.ensures {u = tt}))
    c.in_ok-staged.staged (c.in_ok-staged.ensures {u = tt})

use Rattle.std.proofs.Common.{◌≡◌, refl, sym, ◌∙◌, ap, subst, ℕ, ◌<◌, ◌≤◌, true, false}
use Rattle.std.specs.Prelude.{is_some}
use Rattle.std.proofs.lemmas.Result.{err_from_is_err_and}
use Rattle.cell_world.specs.Placed.Pages.{is_taken_run}
use Rattle.cell_world.specs.World.{Task}
use Rattle.cell_mem.specs.State.{region_from, unmapped}
use Rattle.cell_place.specs.Space.{with_run}
use Rattle.cell_task.specs.State.{seen_as}
use Rattle.cell_machine.specs.declared.machine.Machine.{Machine}
use Rattle.cell_schedule.specs.Ends.{stack_run}
use Rattle.cell_schedule.proofs.Ended.{stack_above, stack_given, stack_low, stack_mapped}
use Rattle.cell_schedule.proofs.Killing.{kill_failed, killed, live_there, own_stack}
use Rattle.cell_schedule.proofs.ending.kill.Goals as goal

pub returns-in_err-live : goal.returns-in_err-live
returns-in_err-live c =
    let p = err_from_is_err_and c.from_residual.result c.from_residual.ensures.1 in
    rw (p.1, p.2) (kill_failed c.args.machine.now c.requires c.args.task c.in_err-live.field-0.0 c.in_err-live.ensures)

pub unmap-requires : goal.unmap-requires
unmap-requires c =
    let m = c.args.machine.now in
    let t : Task = seen_as c.args.task c.in_ok-live.field-0.now in
    subst (λ (s : ℕ). is_some (region_from m.memory s) ≡ true) (sym (own_stack m c.requires c.args.task t c.in_ok-live.ensures refl c.kill-stack.result c.kill-stack.ensures.stack))
    (stack_mapped m c.requires t (live_there m c.requires c.args.task t c.in_ok-live.ensures refl))

pub give_back-requires-clause-above : goal.give_back-requires-clause-above
give_back-requires-clause-above c =
    let m = c.args.machine.now in
    let t : Task = seen_as c.args.task c.in_ok-live.field-0.now in
    subst (λ (s : ℕ). m.space.base ≤ s) (sym (own_stack m c.requires c.args.task t c.in_ok-live.ensures refl c.kill-stack.result c.kill-stack.ensures.stack))
    (stack_above m c.requires t (live_there m c.requires c.args.task t c.in_ok-live.ensures refl))

pub give_back-requires-clause-low : goal.give_back-requires-clause-low
give_back-requires-clause-low c =
    let m = c.args.machine.now in
    let t : Task = seen_as c.args.task c.in_ok-live.field-0.now in
    subst (λ (s : ℕ). (stack_run m.space.base s).page < 4096) (sym (own_stack m c.requires c.args.task t c.in_ok-live.ensures refl c.kill-stack.result c.kill-stack.ensures.stack))
    (stack_low m c.requires t (live_there m c.requires c.args.task t c.in_ok-live.ensures refl))

pub give_back-requires-clause-taken : goal.give_back-requires-clause-taken
give_back-requires-clause-taken c =
    let m = c.args.machine.now in
    let t : Task = seen_as c.args.task c.in_ok-live.field-0.now in
    subst (λ (s : ℕ). is_taken_run m.space.taken (stack_run m.space.base s).page 4 ≡ true) (sym (own_stack m c.requires c.args.task t c.in_ok-live.ensures refl c.kill-stack.result c.kill-stack.ensures.stack))
    (stack_given m c.requires t (live_there m c.requires c.args.task t c.in_ok-live.ensures refl))

pub returns : goal.returns
returns c =
    let m = c.args.machine.now in
    let t : Task = seen_as c.args.task c.in_ok-live.field-0.now in
    let stack : c.kill-stack.result ≡ t.stack = own_stack m c.requires c.args.task t c.in_ok-live.ensures refl c.kill-stack.result c.kill-stack.ensures.stack in
    let new : Machine = record m { space = c.give_back.new.space; memory = c.unmap.new.self; tasks = c.kill-stack.new.self } in
    killed m c.requires c.args.task t c.in_ok-live.ensures refl new (record {
      cells = refl;
      soft = refl;
      next = refl;
      swaps = refl;
      namespaces = refl;
      known = refl;
      sections = refl;
      rows = refl;
      space = c.give_back.ensures ∙ ap (λ (s : ℕ). with_run m.space (stack_run m.space.base s) false) stack;
      memory = c.unmap.ensures ∙ ap (unmapped m.memory) stack;
      tasks = c.kill-stack.ensures.gone;
    })

-- `step` gives turns to the task that it names, or answers why not.
use Rattle.std.proofs.Common.{◌≡◌, refl, sym, ◌∙◌, ap, subst, ℕ, Option, Some, None, Ok, Err}
use Rattle.std.specs.Prelude.{decimal}
use Rattle.cell_world.specs.declared.refusal.Refusal.TheVariants.{NotRunnable, Unknown}
use Rattle.cell_world.specs.declared.reply.Reply.TheVariants.{Step as StepDone}
use Rattle.cell_world.specs.declared.reply.TaskRun.{TaskRun}
use Rattle.cell_world.specs.Answer.{Done, done, live_task}
use Rattle.cell_world.specs.Outcome.{Outcome, ◌>>=◌, ◌>>◌}
use Rattle.cell_world.specs.Commands.TaskCommands.{can_run, next_step}
use Rattle.cell_world.specs.Running.Turn.{turns_of}
use Rattle.cell_world.specs.World.{Fault, Task, task_of}
use Rattle.cell_lemmas.proofs.Outcomes.{found_ok}
use Rattle.cell_world.specs.Following.{FailsAs}
use Rattle.cell_world.specs.declared.fail.Fail.{Fail}
use Rattle.cell_world.specs.declared.fail.Fail.TheVariants.{Refused, OutOfMemory}
use Rattle.cell_task.specs.State.{IsReady}
use Rattle.cell_machine.specs.declared.machine.Machine.{Machine}
use Rattle.cell_machine.specs.Machine.{IsSound, world_of}
use Rattle.cell_machine.proofs.Unchanged.{same_itself}
use Rattle.cell_machine.specs.Does.{Does, HasDone, no_stack}
use Rattle.cell_schedule.specs.Turns.{HasRun}
use Rattle.cell_machine.proofs.Counts.{counts_stand}

-- no region is mapped, and the count of maps stands
pub lacking : (said : Outcome Done) (m : Machine) (fail : Fail) → fail ≡ OutOfMemory → Does said no_stack m (Err fail) m
lacking said m fail e = subst (λ (f : Fail). Does said no_stack m (Err f) m) (sym e) (same_itself m)

-- a task that may run has no fault
no_fault : (t : Task) → can_run t ≡ Ok tt → t.fault ≡ None
no_fault t e = go t.fault e
  where
    go : (o : Option Fault) → (elim o as (λ _. Outcome (Unit {0})) [ None ↦ Ok tt | Some fault ↦ Err (NotRunnable t.number fault.cause fault.pc) ]) ≡ Ok tt → o ≡ None
    go None e = refl
    go (Some fault) e = cc

module _ (m : Machine) (sound : IsSound m) (number n : ℕ) where
  pub not_live : (fail : Fail) → FailsAs fail (live_task (world_of m) number) → Does (next_step (world_of m) number n) no_stack m (Err fail) m
  not_live (Refused refusal) e = (ap (λ o. o >>= (λ t. can_run t >> (let after = turns_of n (world_of m) number in done (StepDone after.run) after.world))) e, same_itself m)
  not_live OutOfMemory e = same_itself m

  module _ (t : Task) (is : live_task (world_of m) number ≡ Ok t) where
    abbrev step_of : next_step (world_of m) number n ≡ (can_run t >> (let after = turns_of n (world_of m) number in done (StepDone after.run) after.world))
    step_of = ap (λ o. o >>= (λ t. can_run t >> (let after = turns_of n (world_of m) number in done (StepDone after.run) after.world))) is

    pub not_ready : (fail : Fail) → FailsAs fail (can_run t) → Does (next_step (world_of m) number n) no_stack m (Err fail) m
    not_ready (Refused refusal) e = (step_of ∙ ap (λ o. o >> (let after = turns_of n (world_of m) number in done (StepDone after.run) after.world)) e, same_itself m)
    not_ready OutOfMemory e = same_itself m

    pub is_ready : can_run t ≡ Ok tt → IsReady m.tasks number
    is_ready e = record { task = t; live = found_ok (task_of (world_of m) number) (Unknown (decimal number)) t is; ready = no_fault t e }

    pub stepped : can_run t ≡ Ok tt → (run : TaskRun) (new : Machine) → HasRun m (turns_of n (world_of m) number) run new → HasDone (next_step (world_of m) number n) 0 m (StepDone run) new
    stepped e run new h =
        counts_stand (next_step (world_of m) number n) m new (StepDone run) sound h.sound
        (step_of
        ∙ (ap (λ o. o >> (let after = turns_of n (world_of m) number in done (StepDone after.run) after.world)) e
        ∙ (ap (λ r. done (StepDone r) (turns_of n (world_of m) number).world) (sym h.is)
        ∙ ap (done (StepDone run)) (sym h.world))))
        refl refl h.counted.patches h.counted.maps

-- `kill` ends the task that it names, or answers that there is none.
use Rattle.std.proofs.Common.{◌≡◌, refl, sym, ◌∙◌, ap, ℕ, Some, Ok, Err}
use Rattle.cell_world.specs.declared.refusal.Refusal.TheVariants.{Unknown}
use Rattle.cell_world.specs.declared.reply.Reply.TheVariants.{Kill as KillDone}
use Rattle.std.specs.Prelude.{decimal, option_map}
use Rattle.cell_world.specs.Answer.{done, live_task}
use Rattle.cell_world.specs.Outcome.{◌>>=◌}
use Rattle.cell_world.specs.Commands.TaskCommands.{next_kill}
use Rattle.cell_world.specs.Running.Turn.{without_task}
use Rattle.cell_world.specs.World.{Task, task_of}
use Rattle.cell_lemmas.proofs.Outcomes.{found_ok}
use Rattle.cell_world.specs.Following.{FailsAs}
use Rattle.cell_world.specs.declared.fail.Fail.{Fail}
use Rattle.cell_world.specs.declared.fail.Fail.TheVariants.{Refused, OutOfMemory}
use Rattle.cell_machine.specs.declared.machine.Machine.{Machine}
use Rattle.cell_machine.specs.Machine.{IsSound, world_of}
use Rattle.cell_machine.proofs.Counts.{counts_stand}
use Rattle.cell_machine.proofs.Unchanged.{same_itself}
use Rattle.cell_machine.specs.Does.{Does, HasDone, no_stack}
use Rattle.cell_schedule.specs.Ends.{IsEnded}
use Rattle.cell_schedule.proofs.Ended.{ended_sound, maps_ended, patches_ended, world_ended}

module _ (m : Machine) (sound : IsSound m) (number : ℕ) where
  pub kill_failed : (fail : Fail) → FailsAs fail (live_task (world_of m) number) → Does (next_kill (world_of m) number) no_stack m (Err fail) m
  kill_failed (Refused refusal) e = (ap (λ o. o >>= (λ t. done (KillDone number) (without_task (world_of m) t))) e, same_itself m)
  kill_failed OutOfMemory e = same_itself m

  module _ (t : Task) (is : live_task (world_of m) number ≡ Ok t) (numbered : t.number ≡ number) where
    pub live_there : task_of (world_of m) t.number ≡ Some t
    live_there = ap (task_of (world_of m)) numbered ∙ found_ok (task_of (world_of m) number) (Unknown (decimal number)) t is

    pub own_stack : (stack : ℕ) → option_map (λ (t : Task). t.stack) (task_of (world_of m) number) ≡ Some stack → stack ≡ t.stack
    own_stack stack e = let found : task_of (world_of m) number ≡ Some t = found_ok (task_of (world_of m) number) (Unknown (decimal number)) t is in let both : Some stack ≡ Some t.stack = sym e ∙ ap (option_map (λ (t : Task). t.stack)) found in cc

    pub killed : (new : Machine) → IsEnded m t new → HasDone (next_kill (world_of m) number) 0 m (KillDone number) new
    killed new e =
        counts_stand (next_kill (world_of m) number) m new (KillDone number) sound (ended_sound m sound t live_there new e)
        (ap (λ o. o >>= (λ t. done (KillDone number) (without_task (world_of m) t))) is ∙ ap (done (KillDone number)) (sym (world_ended m sound t live_there new e)))
        refl refl (patches_ended m sound t live_there new e) (maps_ended m sound t live_there new e)

-- The commands on tasks that are live keep the machine coherent.
use Rattle.std.proofs.Common.{◌≡◌, refl, ap, subst, ℕ, zero, suc, Bool, true, false, List, [], ◌∷◌, ◌++◌, map, Option, Some, None, Ok}
use Rattle.std.specs.Prelude.{fold, filter, ◌==◌, decimal, if◌then◌else◌}
use Rattle.cell_world.specs.declared.refusal.Refusal.TheVariants.{Unknown}
use Rattle.cell_world.specs.declared.reply.TaskState.{TaskState}
use Rattle.cell_world.specs.declared.reply.TaskState.TheVariants.{Ready, Done as DoneState, Fault as Faulted}
use Rattle.cell_world.specs.World.{World, Region, Task, task_of, is_ready}
use Rattle.cell_world.specs.Answer.{Done, live_task}
use Rattle.cell_world.specs.Coherent.{IsCoherent}
use Rattle.cell_world.specs.Running.Turn.{Ran, ran, standing, turn, turns_from}
use Rattle.cell_world.specs.Commands.TaskCommands.{next_step, next_run, next_kill, next_tasks, run_task, Round, can_run}
use Rattle.cell_num.specs.Lists.{In}
use Rattle.cell_num.proofs.Elements.{found-In}
use Rattle.cell_lemmas.proofs.Outcomes.{bind_ok, then_ok, found_ok}
use Rattle.cell_lemmas.proofs.Naming.Appended.{ok_same}
use Rattle.cell_lemmas.specs.Kept.{KeepsCells}
use Rattle.cell_lemmas.proofs.Tasks.Killed.{kill_coherent}
use Rattle.cell_lemmas.proofs.Tasks.Turned.{turn_coherent}

abbrev world_in : Ran → World
world_in r = r.world

-- what each turn of a live task keeps is kept by many turns of many tasks
module _ (P : World → Type 0) (keeps : (w : World) (t : Task) → In t w.tasks → P w → P (turn w t).world) where
  turns_keep : (n : ℕ) (stops : Bool) (task had : ℕ) (out : List ℕ) (w : World) → P w → P (turns_from n stops task had out w).world
  turns_keep zero stops task had out w h = h
  turns_keep (suc n) stops task had out w h = go (task_of w task) refl (λ more_out v k. turns_keep n stops task (suc had) more_out v k)
    where
      more : ((more_out : List ℕ) (v : World) → P v → P (turns_from n stops task (suc had) more_out v).world) → (t : Task) → In t w.tasks → (state : TaskState) (yields : Bool)
          → P (world_in (elim state [
            | Ready ↦ elim yields [ true ↦ ran (turn w t).world task (suc had) Ready (out ++ (turn w t).out) | false ↦ turns_from n stops task (suc had) (out ++ (turn w t).out) (turn w t).world ]
            | DoneState code ↦ ran (turn w t).world task (suc had) (DoneState code) (out ++ (turn w t).out)
            | Faulted cause pc ↦ ran (turn w t).world task (suc had) (Faulted cause pc) (out ++ (turn w t).out)
          ]))
      more rec t i Ready true = keeps w t i h
      more rec t i Ready false = rec (out ++ (turn w t).out) (turn w t).world (keeps w t i h)
      more rec t i (DoneState code) y = keeps w t i h
      more rec t i (Faulted cause pc) y = keeps w t i h

      go : (o : Option Task) → task_of w task ≡ o → ((more_out : List ℕ) (v : World) → P v → P (turns_from n stops task (suc had) more_out v).world) → P (world_in (elim o [
        | None ↦ ran w task had Ready out
        | Some t ↦ elim (turn w t).state [
          | Ready ↦ elim (if stops then (turn w t).yields else false) [ true ↦ ran (turn w t).world task (suc had) Ready (out ++ (turn w t).out) | false ↦ turns_from n stops task (suc had) (out ++ (turn w t).out) (turn w t).world ]
          | DoneState code ↦ ran (turn w t).world task (suc had) (DoneState code) (out ++ (turn w t).out)
          | Faulted cause pc ↦ ran (turn w t).world task (suc had) (Faulted cause pc) (out ++ (turn w t).out)
        ]
      ]))
      go None e rec = h
      go (Some t) e rec = more rec t (found-In (λ u. u.number == task) w.tasks t e).0 (turn w t).state (if stops then (turn w t).yields else false)

  rounds_keep : (n : ℕ) (numbers : List ℕ) (r : Round) → P r.world → P (fold (run_task n) r numbers).world
  rounds_keep n [] r h = h
  rounds_keep n (t ∷ numbers) r h = rounds_keep n numbers (run_task n r t) (turns_keep n true t 0 [] r.world h)

  pub step_leaves : (w : World) (number n : ℕ) (d : Done) → P w → next_step w number n ≡ Ok d → P d.world
  step_leaves w number n d h e =
      let a = bind_ok (live_task w number) _ d e in
      let b = then_ok (can_run a.0) _ d a.2 in
      subst P (ap (λ (x : Done). x.world) (ok_same _ d b.2)) (turns_keep n false number 0 [] w h)

  pub run_leaves : (w : World) (n : ℕ) (d : Done) → P w → next_run w n ≡ Ok d → P d.world
  run_leaves w n d h e =
      subst P (ap (λ (x : Done). x.world) (ok_same _ d e)) (rounds_keep n (map (λ t. t.number) (filter is_ready w.tasks)) (record { world = w; runs = [] }) h)

turn_by : (w : World) (t : Task) → In t w.tasks → IsCoherent w → IsCoherent (turn w t).world
turn_by w t i h = turn_coherent w h t i

pub step_keeps : (w : World) (number n : ℕ) (d : Done) → IsCoherent w → next_step w number n ≡ Ok d → IsCoherent d.world
step_keeps w number n d h e = step_leaves IsCoherent turn_by w number n d h e

pub run_keeps : (w : World) (n : ℕ) (d : Done) → IsCoherent w → next_run w n ≡ Ok d → IsCoherent d.world
run_keeps w n d h e = run_leaves IsCoherent turn_by w n d h e

-- cells, links, namespaces and all numbers
cells_in : (v w : World) (regions : List Region) (t : Task) (state : TaskState) → KeepsCells v w → KeepsCells v (standing (record w { regions = regions }) t state)
cells_in v w regions t Ready k = k
cells_in v w regions t (DoneState code) k = k
cells_in v w regions t (Faulted cause pc) k = k

turn_cells : (v w : World) (t : Task) → In t w.tasks → KeepsCells v w → KeepsCells v (turn w t).world
turn_cells v w t i k = cells_in v w _ _ (turn w t).state k

pub step_cells : (w : World) (number n : ℕ) (d : Done) → next_step w number n ≡ Ok d → KeepsCells w d.world
step_cells w number n d e = step_leaves (KeepsCells w) (turn_cells w) w number n d refl e

pub run_cells : (w : World) (n : ℕ) (d : Done) → next_run w n ≡ Ok d → KeepsCells w d.world
run_cells w n d e = run_leaves (KeepsCells w) (turn_cells w) w n d refl e

pub kill_cells : (w : World) (number : ℕ) (d : Done) → next_kill w number ≡ Ok d → KeepsCells w d.world
kill_cells w number d e =
    let a = bind_ok (live_task w number) _ d e in
    subst (KeepsCells w) (ap (λ (x : Done). x.world) (ok_same _ d a.2)) refl

pub kill_keeps : (w : World) (number : ℕ) (d : Done) → IsCoherent w → next_kill w number ≡ Ok d → IsCoherent d.world
kill_keeps w number d h e =
    let a = bind_ok (live_task w number) _ d e in
    let t = found_ok (task_of w number) (Unknown (decimal number)) a.0 a.1 in
    subst IsCoherent (ap (λ (x : Done). x.world) (ok_same _ d a.2)) (kill_coherent w h a.0 (found-In (λ u. u.number == number) w.tasks a.0 t).0)

pub tasks_same : (w : World) (d : Done) → next_tasks w ≡ Ok d → w ≡ d.world
tasks_same w d e = ap (λ (x : Done). x.world) (ok_same _ d e)

pub tasks_keeps : (w : World) (d : Done) → IsCoherent w → next_tasks w ≡ Ok d → IsCoherent d.world
tasks_keeps w d h e = subst IsCoherent (tasks_same w d e) h

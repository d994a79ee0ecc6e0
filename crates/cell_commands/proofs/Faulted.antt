-- A task that has faulted, and the cells that are renewed for it.
use Rattle.std.proofs.Common.{◌≡◌, refl, sym, ◌∙◌, ap, ℕ, Bool, true, false, not, Option, None, Some, Ok, Err}
use Rattle.std.specs.Prelude.{◌==◌, decimal, is_some, option_map}
use Rattle.std.proofs.lemmas.Bool.{eqb-true}
use Rattle.cell_num.proofs.Elements.{found-In}
use Rattle.cell_world.specs.declared.fail.Fail.{Fail}
use Rattle.cell_world.specs.declared.fail.Fail.TheVariants.{Refused, OutOfMemory}
use Rattle.cell_world.specs.declared.refusal.Refusal.TheVariants.{NotFaulted, Unknown}
use Rattle.cell_world.specs.Answer.{live_task}
use Rattle.cell_world.specs.Commands.Recovery.{faulted_task}
use Rattle.cell_world.specs.Following.{FailsAs}
use Rattle.cell_world.specs.Outcome.{Outcome, ◌>>=◌, ◌>>◌, found, need}
use Rattle.cell_world.specs.World.{Task, World, is_ready, task_of}
use Rattle.cell_task.specs.State.{fault_as, seen_as}
use Rattle.cell_task.specs.declared.task.Task.{Task as LiveTask}
use Rattle.cell_task.specs.declared.task.TaskFault.{TaskFault}

as_ok : (a b : Task) → (let o : Outcome Task = Ok a in o) ≡ Ok b → a ≡ b
as_ok a b e = cc

-- the task has the number by which it is named
pub same_number : (w : World) (number : ℕ) (t : Task) → faulted_task w number ≡ Ok t → t.number ≡ number
same_number w number t e = go (task_of w number) refl e
  where
    needs : (u : Task) (b : Bool) → (need b (NotFaulted number) >> (let o : Outcome Task = Ok u in o)) ≡ Ok t → u ≡ t
    needs u true k = as_ok u t k
    needs u false k = absurd cc

    go : (o : Option Task) → task_of w number ≡ o → (found o (Unknown (decimal number)) >>= (λ u. need (not (is_ready u)) (NotFaulted number) >> Ok u)) ≡ Ok t → t.number ≡ number
    go None f k = absurd cc
    go (Some u) f k =
        ap (λ (x : Task). x.number) (sym (needs u (not (is_ready u)) k))
        ∙ eqb-true u.number number (found-In (λ (x : Task). x.number == number) w.tasks u f).1

-- what a lookup of the task gave
pub not_live : (w : World) (number : ℕ) (fail : Fail) → FailsAs fail (live_task w number) → FailsAs fail (faulted_task w number)
not_live w number (Refused r) e = ap (λ (o : Outcome Task). o >>= (λ t. need (not (is_ready t)) (NotFaulted number) >> Ok t)) e
not_live w number OutOfMemory e = tt

module _ (w : World) (number : ℕ) (t : Task) (live : live_task w number ≡ Ok t) where
  by_live : faulted_task w number ≡ (need (not (is_ready t)) (NotFaulted number) >> (let o : Outcome Task = Ok t in o))
  by_live = ap (λ (o : Outcome Task). o >>= (λ t. need (not (is_ready t)) (NotFaulted number) >> Ok t)) live

  pub goes_on : is_ready t ≡ true → faulted_task w number ≡ Err (NotFaulted number)
  goes_on ready = by_live ∙ ap (λ (b : Bool). need (not b) (NotFaulted number) >> (let o : Outcome Task = Ok t in o)) ready

  pub has_faulted : is_ready t ≡ false → faulted_task w number ≡ Ok t
  has_faulted faulted = by_live ∙ ap (λ (b : Bool). need (not b) (NotFaulted number) >> (let o : Outcome Task = Ok t in o)) faulted

-- whether a task is ready is told by its fault
pub ready_is : (number : ℕ) (t : LiveTask) → is_ready (seen_as number t) ≡ not (is_some t.fault)
ready_is number t = go t.fault
  where
    go : (o : Option TaskFault) → (elim (option_map fault_as o) as (λ _. Bool) [ None ↦ true | Some fault ↦ false ]) ≡ not (is_some o)
    go None = refl
    go (Some fault) = refl

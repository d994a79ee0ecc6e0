-- A turn of a task leaves the other tasks.
use Rattle.std.proofs.Common.{◌≡◌, refl, sym, ◌∙◌, ap, ℕ, Bool, true, false, not, List, [], ◌∷◌, cond}
use Rattle.std.specs.Prelude.{◌==◌, Some, map, if◌then◌else◌}
use Rattle.cell_world.specs.declared.reply.TaskState.{TaskState}
use Rattle.cell_world.specs.declared.reply.TaskState.TheVariants.{Ready, Done, Fault as Faulted}
use Rattle.cell_world.specs.World.{World, Task}
use Rattle.cell_world.specs.Running.Execute.{seen_in}
use Rattle.cell_world.specs.Running.Move.{Move, move}
use Rattle.cell_world.specs.Running.Turn.{hart_of, standing, task_column, turn}
use Rattle.std.proofs.lemmas.Bool.{eq-eqb}
use Rattle.cell_lemmas.specs.Kept.{other_tasks}

abbrev put : ℕ → Task → Task → Task
put number t u = if u.number == number then t else u

-- one in the place of another, both of that number
put_others : (number : ℕ) (t : Task) → (t.number == number) ≡ true → (tasks : List Task) → other_tasks number (map (put number t) tasks) ≡ other_tasks number tasks
put_others number t same [] = refl
put_others number t same (u ∷ tasks) = go (u.number == number) refl (put_others number t same tasks)
  where
    go : (b : Bool) → (u.number == number) ≡ b → other_tasks number (map (put number t) tasks) ≡ other_tasks number tasks
        → other_tasks number (cond b t u ∷ map (put number t) tasks) ≡ other_tasks number (u ∷ tasks)
    go true e rest =
        ap (λ b. cond (not b) (t ∷ other_tasks number (map (put number t) tasks)) (other_tasks number (map (put number t) tasks))) same
        ∙ (rest ∙ sym (ap (λ b. cond (not b) (u ∷ other_tasks number tasks) (other_tasks number tasks)) e))
    go false e rest = ap (λ (us : List Task). cond (not (u.number == number)) (u ∷ us) us) rest

-- a task that goes is of that number
gone_others : (number : ℕ) (tasks : List Task) → other_tasks number (other_tasks number tasks) ≡ other_tasks number tasks
gone_others number [] = refl
gone_others number (u ∷ tasks) = go (u.number == number) refl (gone_others number tasks)
  where
    go : (b : Bool) → (u.number == number) ≡ b → other_tasks number (other_tasks number tasks) ≡ other_tasks number tasks
        → other_tasks number (cond (not b) (u ∷ other_tasks number tasks) (other_tasks number tasks)) ≡ cond (not b) (u ∷ other_tasks number tasks) (other_tasks number tasks)
    go true e rest = rest
    go false e rest =
        ap (λ b. cond (not b) (u ∷ other_tasks number (other_tasks number tasks)) (other_tasks number (other_tasks number tasks))) e
        ∙ ap (λ (us : List Task). u ∷ us) rest

standing_others : (w : World) (t : Task) (state : TaskState) → other_tasks t.number (standing w t state).tasks ≡ other_tasks t.number w.tasks
standing_others w t Ready = put_others t.number t (eq-eqb t.number t.number refl) w.tasks
standing_others w t (Done code) = gone_others t.number w.tasks
standing_others w t (Faulted cause pc) = put_others t.number (record t { fault = Some (record { cause = cause; pc = pc }) }) (eq-eqb t.number t.number refl) w.tasks

pub turn_others : (w : World) (t : Task) → other_tasks t.number (turn w t).world.tasks ≡ other_tasks t.number w.tasks
turn_others w t =
    standing_others (record w { regions = after.regions }) (record t { pc = after.hart.pc; registers = after.hart.registers }) after.state
  where
    after : Move
    after = move task_column (seen_in w) (hart_of t)

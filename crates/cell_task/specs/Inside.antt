-- What the fields of the tasks mean, and what always holds of them.
--     tasks_at at numbers keys       the tasks of these numbers, whose values have these keys
--     HasValues at keys              each key has a value, and no two are equal
--     state_of t, IsSound t          the view and the invariant
use Rattle.std.specs.Prelude.{◌≡◌, ◌≢◌, ℕ, List, [], ◌∷◌, Option, Some, None, length, is_some, true}
use Rattle.cell_world.specs.World.{Task}
use Rattle.slab.specs.Slab.{get}
use Rattle.cell_task.specs.declared.task.Task.{Task as LiveTask}
use Rattle.cell_task.specs.declared.tasks.Tasks.TheInside.{Inside}
use Rattle.cell_task.specs.Numbers.{IsRising}
use Rattle.cell_task.specs.State.{TasksState, seen_as}

-- the tasks of these numbers, each with the value that its key has
abbrev pub tasks_at : (ℕ → Option LiveTask) → List ℕ → List ℕ → List Task
tasks_at at [] keys = []
tasks_at at (n ∷ numbers) [] = []
tasks_at at (n ∷ numbers) (key ∷ keys) =
    elim (at key) [ None ↦ tasks_at at numbers keys | Some t ↦ seen_as n t ∷ tasks_at at numbers keys ]

-- the key is none of these
abbrev pub IsOther : ℕ → List ℕ → Type 0
IsOther key [] = Unit {0}
IsOther key (other ∷ keys) = (other ≢ key) × IsOther key keys

-- each key has a value, and no two are equal
abbrev pub HasValues : (ℕ → Option LiveTask) → List ℕ → Type 0
HasValues at [] = Unit {0}
HasValues at (key ∷ keys) = (is_some (at key) ≡ true) × IsOther key keys × HasValues at keys

abbrev pub state_of : Inside → TasksState
state_of t =
    record { tasks = tasks_at (get t.arena) t.numbers.items t.keys.items; next = t.next }

pub record IsSound (t : Inside) : Type 0 where
  pub rising : IsRising 1 t.numbers.items t.next
  pub paired : length t.keys.items ≡ length t.numbers.items
  pub values : HasValues (get t.arena) t.keys.items

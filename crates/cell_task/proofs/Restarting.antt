-- A task that begins again among the fields of the tasks.
use Rattle.std.proofs.Common.{◌≡◌, ap, ◌∙◌, ℕ, ◌+◌, ◌<◌, ◌^◌, Some, get_or}
use Rattle.slab.specs.Slab.{get}
use Rattle.cell_num.specs.Limits.{stack_size}
use Rattle.cell_world.specs.Running.Restart.{restarted}
use Rattle.cell_world.specs.World.{Task}
use Rattle.cell_mem.specs.State.{MemoryState}
use Rattle.cell_task.specs.declared.task.Task.{Task as LiveTask}
use Rattle.cell_task.specs.declared.tasks.Tasks.TheInside.{Inside}
use Rattle.cell_task.specs.Clearing.{CanClear, with_cleared}
use Rattle.cell_task.specs.Inside.{IsSound, state_of}
use Rattle.cell_task.specs.Numbers.{HasAt}
use Rattle.cell_task.specs.State.{TasksState, live_in, seen_as, with_changed}
use Rattle.cell_task.proofs.Ending.{some_same, there, turned, turned_view}

module _ (i : Inside) (sound : IsSound i) (s : TasksState) (view : state_of i ≡ s) (place number : ℕ) (at : HasAt i.numbers.items place number) (key : ℕ) (e : key ≡ get_or i.keys.items place 0)
    (t u : LiveTask) (got : Some t ≡ get i.arena key) where
  module _ (m : MemoryState) (can : (w : Task) → live_in s number ≡ Some w → CanClear m w.stack) where
    pub may_clear : CanClear m t.stack
    may_clear = can (seen_as number t) (there i sound s view place number at key e t u got)

    pub stack_low : t.stack + stack_size < 2 ^ 64
    stack_low = may_clear.low

  pub begun_view : (entry : ℕ × ℕ) → seen_as number u ≡ restarted (seen_as number t) entry → (w : Task) → live_in s number ≡ Some w
      → state_of (turned i sound s view place number at key e t u got) ≡ with_changed s (restarted w entry)
  begun_view entry again w live =
      turned_view i sound s view place number at key e t u got
      ∙ ap (λ (x : Task). with_changed s x)
      (again ∙ ap (λ (x : Task). restarted x entry) (some_same (seen_as number t) w (live_in s number) (there i sound s view place number at key e t u got) live))

  pub cleared_for : (m n : MemoryState) → n ≡ with_cleared m t.stack → (w : Task) → live_in s number ≡ Some w → n ≡ with_cleared m w.stack
  cleared_for m n is w live = is ∙ ap (λ (x : Task). with_cleared m x.stack) (some_same (seen_as number t) w (live_in s number) (there i sound s view place number at key e t u got) live)

-- What the end of a task leaves of the machine.
--     stack_run base stack      the pages of a stack
--     IsEnded old t new         the machine without the task, whose stack has been given back
use Rattle.std.specs.Prelude.{ℕ, ◌≡◌, ◌-◌, ◌/◌, false}
use Rattle.cell_num.specs.Limits.{page_size, stack_pages}
use Rattle.cell_world.specs.World.{Task}
use Rattle.cell_mem.specs.State.{unmapped}
use Rattle.cell_place.specs.declared.search.Run.{Run}
use Rattle.cell_place.specs.Space.{with_run}
use Rattle.cell_task.specs.State.{without}
use Rattle.cell_machine.specs.declared.machine.Machine.{Machine}

-- four pages, from the one that the address begins
abbrev pub stack_run : ℕ → ℕ → Run
stack_run base stack = record { page = (stack - base) / page_size; count = stack_pages }

-- its region is unmapped, and its pages are free
pub record IsEnded (old : Machine) (t : Task) (new : Machine) : Type 0 where
  pub cells : new.cells.items ≡ old.cells.items
  pub soft : new.soft.items ≡ old.soft.items
  pub next : new.next ≡ old.next
  pub swaps : new.swaps ≡ old.swaps
  pub namespaces : new.spaces.namespaces ≡ old.spaces.namespaces
  pub known : new.spaces.cells ≡ old.spaces.cells
  pub sections : new.graph.sections ≡ old.graph.sections
  pub rows : new.graph.rows ≡ old.graph.rows
  pub space : new.space ≡ with_run old.space (stack_run old.space.base t.stack) false
  pub memory : new.memory ≡ unmapped old.memory t.stack
  pub tasks : new.tasks ≡ without old.tasks t.number

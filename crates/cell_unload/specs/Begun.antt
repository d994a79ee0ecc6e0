-- The roots of a machine, as they are listed.
--     root_of aside c          the root that the attached cell is, unless it is put aside
--     root_of_task t           the root that the live task is
--     renewed_root view root   the view, where the root is the task of the view, and else the root
use Rattle.std.specs.Prelude.{◌==◌, ◌||◌, Bool, List, [], ◌∷◌, if◌then◌else◌, is_some}
use Rattle.std.specs.List.{list_any}
use Rattle.cell_num.specs.declared.ids.CellId.{CellId}
use Rattle.cell_hold.specs.declared.roots.Root.{Root}
use Rattle.cell_hold.specs.declared.roots.Root.TheVariants.{Attached, Task, Word}
use Rattle.cell_hold.specs.declared.roots.TaskView.{TaskView}
use Rattle.cell_world.specs.Commands.MapCommand.{group_of}
use Rattle.cell_world.specs.World.{Cell, Task as LiveTask}

abbrev pub is_aside : List CellId → CellId → Bool
is_aside aside cell = list_any (λ c. c.0 == cell.0) aside

abbrev pub root_of : List CellId → Cell → List Root
root_of aside c = if is_some (group_of c.standing) || is_aside aside c.id then [] else Attached c.id ∷ []

abbrev pub root_of_task : LiveTask → Root
root_of_task t = Task (record { task = t.number; root = record { 0 = t.root }; pc = t.pc; x = t.registers; stack = t.stack })

abbrev pub renewed_root : TaskView → Root → Root
renewed_root view (Attached cell) = Attached cell
renewed_root view (Task t) = if t.task == view.task then Task view else Task t
renewed_root view (Word task word) = Word task word

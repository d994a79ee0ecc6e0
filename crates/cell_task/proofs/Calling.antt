-- A turn that is a call.
use Rattle.std.proofs.Common.{◌≡◌, refl, sym, ap, ◌∙◌, List, []}
use Rattle.cell_world.specs.World.{Region}
use Rattle.cell_world.specs.Running.Execute.{Effect, Goes, Calls, Traps, execute}
use Rattle.cell_world.specs.Running.Move.{Hart, Row, Ends, Passes, Yields, PutsOut, Answers, Refuses, Move, called, move, moved_by}
use Rattle.cell_world.specs.Running.Turn.{task_column, task_row}
use Rattle.cell_hart.specs.declared.hart.Hart.{Hart as LiveHart}
use Rattle.cell_hart.specs.declared.stop.Stop.TheVariants.{Call}
use Rattle.cell_hart.specs.Step.{Steps, IsSame, seen_of}
use Rattle.cell_mem.specs.State.{MemoryState}
use Rattle.cell_task.specs.Ran.{hart_as}

stop_is : (e : Effect) (before after : LiveHart) (old new : MemoryState) → Steps Call e before after old new → (e ≡ Calls) × IsSame before after old new
stop_is (Goes registers pc store) before after old new s = absurd (cc (s.0))
stop_is Calls before after old new s = (refl, s.1)
stop_is (Traps cause) before after old new s = absurd (cc (s.0))

called_at : (regions : List Region) (h : Hart) (row : Row) → record (called [] h row) { regions = regions } ≡ called regions h row
called_at regions h Ends = refl
called_at regions h Passes = refl
called_at regions h Yields = refl
called_at regions h (PutsOut bytes) = refl
called_at regions h (Answers value) = refl
called_at regions h Refuses = refl

-- the hart and the memory are as before, so the call is that of the task
pub call_is : (before after : LiveHart) (old new : MemoryState) → Steps Call (execute (seen_of old) before.x before.pc) before after old new
    → record (called [] (hart_as after) (task_row after.x)) { regions = old.regions } ≡ move task_column (seen_of old) (hart_as before)
call_is before after old new s =
    let t = stop_is (execute (seen_of old) before.x before.pc) before after old new s in
    called_at old.regions (hart_as after) (task_row after.x)
    ∙ ap (λ pc. called old.regions (record { pc = pc; registers = after.x }) (task_row after.x)) t.1.1
    ∙ ap (λ xs. called old.regions (record { pc = before.pc; registers = xs }) (task_row xs)) t.1.0
    ∙ sym (ap (moved_by task_column (seen_of old) (hart_as before)) t.0)

pub call_memory : (before after : LiveHart) (old new : MemoryState) → Steps Call (execute (seen_of old) before.x before.pc) before after old new
    → new ≡ record old { regions = (move task_column (seen_of old) (hart_as before)).regions }
call_memory before after old new s =
    (stop_is (execute (seen_of old) before.x before.pc) before after old new s).1.2
    ∙ ap (λ (r : Move). let m : MemoryState = record old { regions = r.regions } in m) (call_is before after old new s)

-- `spawn NS SYMBOL ARG`
use Rattle.std.specs.Prelude.{ℕ, suc, ◌+◌, ◌-◌, ◌%◌, ◌==◌, nat_lt, nat_le, Bool, false, ◌&&◌, List, [], ◌∷◌, ◌++◌, Option, Some, None, length, replicate, option_map, option_and_then, slice_set, unwrap_or}
use Rattle.cell_object.specs.declared.object.Object.{Object}
use Rattle.cell_object.specs.declared.object.Section.{Section as ObjectSection}
use Rattle.cell_object.specs.declared.object.Home.{Home}
use Rattle.cell_object.specs.declared.object.Home.TheVariants.{Inside}
use Rattle.cell_object.specs.Parts.{section_of, symbol_at}
use Rattle.cell_num.specs.Lists.{where_true}
use Rattle.cell_world.specs.declared.refusal.Refusal.TheVariants.{TooMany, NoEntry}
use Rattle.cell_world.specs.declared.refusal.Many.TheVariants.{Tasks as ManyTasks, TaskNumbers}
use Rattle.cell_world.specs.declared.reply.Reply.TheVariants.{Spawn as SpawnDone}
use Rattle.cell_num.specs.Limits.{max_task_number, max_tasks, stack_size}
use Rattle.cell_world.specs.declared.state.Origin.{Origin}
use Rattle.cell_world.specs.World.{World, Cell, Task, cell_of}
use Rattle.cell_world.specs.Names.{attached_provider}
use Rattle.cell_world.specs.Linked.Target.{start_of}
use Rattle.cell_world.specs.Placed.Layout.{sections_in, permission_of, offset_in}
use Rattle.cell_world.specs.declared.layout.Class.TheVariants.{Text, Writable}
use Rattle.cell_world.specs.Placed.Place.{start_of_run, with_region}
use Rattle.cell_world.specs.Outcome.{Outcome, ◌>>=◌, ◌>>◌, need, found}
use Rattle.cell_world.specs.Answer.{Done, done, space_of}

-- whole instructions begin at such an offset of the text class: its multiple of 4, and four bytes of an executable section
abbrev pub is_entry_in : Object → ℕ → ObjectSection → Bool
is_entry_in object value s =
    s.exec && (offset_in (sections_in Text object) s.number + value) % 4 == 0 && nat_le (value + 4) s.size

abbrev pub inside_of : Home → Option ℕ
inside_of (Inside n) = Some n
inside_of _ = None

-- the section and offset of the symbol, where a task may begin there
abbrev pub entry_offset : Object → ℕ → Option (ℕ × ℕ)
entry_offset object symbol =
    option_and_then
    (λ s. option_and_then
    (λ section. where_true (unwrap_or (option_map (is_entry_in object s.value) (section_of object section)) false) (section, s.value))
    (inside_of s.home))
    (symbol_at object symbol)

abbrev pub entry_address : Cell → ℕ → Option ℕ
entry_address c symbol = option_map (λ place. start_of c.placed place.0 + place.1) (entry_offset c.object symbol)

-- the cell that provides the name, and the address
abbrev pub entry_named : World → ℕ → List ℕ → Option (ℕ × ℕ)
entry_named w ns symbol =
    option_and_then
    (λ p. option_and_then (λ c. option_map (λ addr. (c.id.0, addr)) (entry_address c p.symbol)) (cell_of w p.cell))
    (attached_provider w ns symbol)

-- a region of four pages of zeros, readable and writable
abbrev pub with_stack : World → ℕ → World
with_stack w start =
    record w { regions = with_region (record { start = start; permission = permission_of Writable; bytes = replicate stack_size 0 }) w.regions }

-- all registers are 0 but x2, 16 bytes below the stack's end, and x10
abbrev pub first_registers : ℕ → ℕ → List ℕ
first_registers arg stack = slice_set (slice_set (replicate 32 0) 10 arg) 2 (stack + stack_size - 16)

abbrev pub new_task : ℕ → ℕ → ℕ → Origin → ℕ → Task
new_task number root entry origin stack =
    record {
      number = number;
      origin = origin;
      root = root;
      stack = stack;
      pc = entry;
      registers = first_registers origin.arg stack;
      fault = None;
    }

abbrev pub next_spawn : World → List ℕ → List ℕ → ℕ → Outcome Done
next_spawn w name symbol arg = do
  ns ← space_of w name
  need (nat_lt (length w.tasks) max_tasks) (TooMany ManyTasks max_tasks)
  need (nat_le w.next_task max_task_number) (TooMany TaskNumbers max_task_number)
  entry ← found (entry_named w ns symbol) (NoEntry symbol)
  stack ← start_of_run w 4
  done (SpawnDone w.next_task entry.1)
      (record (with_stack w stack) { tasks = w.tasks ++ new_task w.next_task entry.0 entry.1 (record { ns = ns; name = symbol; arg = arg }) stack ∷ []; next_task = suc w.next_task })

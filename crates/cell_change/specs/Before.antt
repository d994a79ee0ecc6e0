-- What a change keeps of the machine before its new cells are added.
--     begun_in m count                m with an undo begun for so many writes
use Rattle.std.specs.Prelude.{ℕ}
use Rattle.cell_mem.specs.State.{begun_at}
use Rattle.cell_machine.specs.declared.machine.Machine.{Machine}

abbrev pub begun_in : Machine → ℕ → Machine
begun_in m count = record m { memory = begun_at m.memory count }

-- Machines that differ in spare room alone, and counts.
--     IsSame old new          the same machine, with other room
--     without_counts old new  the new machine with the counts of the old one
--     raised count n          a count after n more
use Rattle.std.specs.Prelude.{ℕ, ◌≡◌, ◌+◌, ◌-◌, ◌^◌, min}
use Rattle.cell_machine.specs.declared.machine.Machine.{Machine}

-- the same but for the room that is reserved
pub record IsSame (old new : Machine) : Type 0 where
  pub cells : new.cells.items ≡ old.cells.items
  pub soft : new.soft.items ≡ old.soft.items
  pub next : new.next ≡ old.next
  pub swaps : new.swaps ≡ old.swaps
  pub namespaces : new.spaces.namespaces ≡ old.spaces.namespaces
  pub known : new.spaces.cells ≡ old.spaces.cells
  pub space : new.space ≡ old.space
  pub spare : ℕ
  pub memory : new.memory ≡ record old.memory { spare = spare }
  pub sections : new.graph.sections ≡ old.graph.sections
  pub rows : new.graph.rows ≡ old.graph.rows
  pub tasks : new.tasks ≡ old.tasks

abbrev pub without_counts : Machine → Machine → Machine
without_counts old new = record new { memory = record new.memory { patches = old.memory.patches; maps = old.memory.maps } }

-- a count that stands still at the last value of 64 bits
abbrev pub raised : ℕ → ℕ → ℕ
raised count n = min (count + n) (2 ^ 64 - 1)

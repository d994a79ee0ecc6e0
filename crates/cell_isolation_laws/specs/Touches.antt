-- What a turn touches, and what it is for two machines to be the same to a task.
--     touched m h                      the bytes that the instruction at the pc fetches, and those that it loads or stores
--     keeps_to starts m h              they are all in the regions that start at these places
--     KeepsTo n starts w number        each of the next n turns of the task touches these regions alone
--     LooksSame starts number v w      the task, those regions, and which of their bytes are sealed
--     RunsSame number v w              what a task did, and how it is after that
use Rattle.std.specs.Prelude.{ℕ, zero, suc, ◌≡◌, ◌+◌, nat_le, Bool, false, true, IsTrue, List, [], ◌∷◌, Some, None, filter, slice_index}
use Rattle.std.specs.List.{list_all}
use Rattle.cell_num.specs.Bits.{wrap, wrap_ℤ}
use Rattle.cell_num.specs.Lists.{holds}
use Rattle.cell_isa.specs.declared.insn.Insn.{Insn}
use Rattle.cell_isa.specs.Instruction.{decode}
use Rattle.cell_isa.specs.declared.memory.Access.{Access}
use Rattle.cell_isa.specs.declared.memory.Access.TheVariants.{Untouched, Loads, Stores}
use Rattle.cell_isa.specs.Meaning.{access_of}
use Rattle.cell_world.specs.World.{World, Region, Task, task_of}
use Rattle.cell_world.specs.Running.Memory.{region_in, end_of}
use Rattle.cell_world.specs.Running.Execute.{Seen, seen_in, number_read}
use Rattle.cell_world.specs.Running.Move.{Hart}
use Rattle.cell_world.specs.Running.Turn.{Ran, hart_of, turn}

-- where bytes begin, and how many they are
abbrev pub Span : Type 0
Span = ℕ × ℕ

abbrev pub data_touched : List ℕ → Insn → Access → List Span
data_touched registers insn Untouched = []
data_touched registers insn (Loads n with_sign) = (wrap (slice_index registers insn.rs1 + wrap_ℤ insn.imm), n) ∷ []
data_touched registers insn (Stores n) = (wrap (slice_index registers insn.rs1 + wrap_ℤ insn.imm), n) ∷ []

abbrev pub touched : Seen → Hart → List Span
touched m h =
    (h.pc, 4) ∷ elim (decode (number_read m.regions h.pc 4)) [ None ↦ [] | Some insn ↦ data_touched h.registers insn (access_of insn.op) ]

abbrev pub regions_from : List ℕ → List Region → List Region
regions_from starts regions = filter (λ r. holds starts r.start) regions

-- the bytes are in one of the regions
abbrev pub is_within : List Region → Span → Bool
is_within regions p = elim (region_in regions p.0) [ None ↦ false | Some r ↦ nat_le (p.0 + p.1) (end_of r) ]

abbrev pub keeps_to : List ℕ → Seen → Hart → Bool
keeps_to starts m h = list_all (is_within (regions_from starts m.regions)) (touched m h)

abbrev pub KeepsTo : ℕ → List ℕ → World → ℕ → Type 0
KeepsTo zero starts w number = Unit {0}
KeepsTo (suc n) starts w number =
    (t : Task) → task_of w number ≡ Some t → IsTrue (keeps_to starts (seen_in w) (hart_of t)) × KeepsTo n starts (turn w t).world number

pub record LooksSame (starts : List ℕ) (number : ℕ) (v w : World) : Type 0 where
  pub task : task_of v number ≡ task_of w number
  pub regions : regions_from starts v.regions ≡ regions_from starts w.regions
  pub sealed : (addr n : ℕ) → is_within (regions_from starts v.regions) (addr, n) ≡ true → (seen_in v).is_sealed addr n ≡ (seen_in w).is_sealed addr n

-- how many turns it had, how it stands, what it put out, and its pc and registers
pub record RunsSame (number : ℕ) (a b : Ran) : Type 0 where
  pub run : a.run ≡ b.run
  pub task : task_of a.world number ≡ task_of b.world number

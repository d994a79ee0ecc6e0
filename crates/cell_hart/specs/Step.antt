-- What a hart and its memory are after an instruction.
--     seen_of memory                               the memory as an instruction sees it
--     Steps stop effect before after old new       the hart was `before` and is `after`, the memory was `old` and is `new`
use Rattle.std.specs.Prelude.{◌≡◌, Option, Some, None, true}
use Rattle.cell_isa.specs.declared.memory.Access.{Access}
use Rattle.cell_isa.specs.declared.memory.Access.TheVariants.{Untouched, Loads, Stores}
use Rattle.cell_hart.specs.declared.hart.Hart.{Hart}
use Rattle.cell_hart.specs.declared.stop.Stop.{Stop}
use Rattle.cell_hart.specs.declared.stop.Stop.TheVariants.{Next, Call, Trap}
use Rattle.cell_mem.specs.State.{MemoryState, is_sealed, is_width, written_at}
use Rattle.cell_world.specs.Running.Memory.{Write}
use Rattle.cell_world.specs.Running.Execute.{Seen, Effect, Goes, Calls, Traps}

abbrev pub seen_of : MemoryState → Seen
seen_of memory = record { regions = memory.regions; is_sealed = λ addr n. is_sealed memory addr n }

-- the store, where there is one, takes one of the writes of a begun undo
abbrev pub written_by : Option Write → MemoryState → MemoryState
written_by None m = m
written_by (Some x) m = written_at m x.addr x.width x.value

abbrev pub IsSame : Hart → Hart → MemoryState → MemoryState → Type 0
IsSame before after old new = (after.x ≡ before.x) × (after.pc ≡ before.pc) × (new ≡ old)

abbrev pub Steps : Stop → Effect → Hart → Hart → MemoryState → MemoryState → Type 0
Steps stop (Goes registers pc store) before after old new =
    (stop ≡ Next) × (after.x ≡ registers) × (after.pc ≡ pc) × (new ≡ written_by store old)
Steps stop Calls before after old new = (stop ≡ Call) × IsSame before after old new
Steps stop (Traps cause) before after old new = (stop ≡ Trap cause before.pc) × IsSame before after old new

-- a load or a store has a width that memory knows
abbrev pub IsAccess : Access → Type 0
IsAccess Untouched = Unit {0}
IsAccess (Loads n with_sign) = is_width n ≡ true
IsAccess (Stores n) = is_width n ≡ true

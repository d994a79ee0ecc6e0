-- What one instruction does: new registers and a new pc, a store, a call, or a trap.
--     Seen                      the memory as an instruction sees it
--     seen_in w                 the memory of the machine
--     execute m registers pc    the instruction at the pc
-- From the RISC-V unprivileged manual, "RV32I Base Integer Instruction Set", "RV64I" and "M Extension"; the causes of
-- traps and their order are this product's.
use Rattle.std.specs.Prelude.{ℕ, zero, suc, ◌+◌, ◌*◌, ◌%◌, ◌==◌, nat_lt, nat_le, Bool, true, false, not, ◌&&◌, List, Option, Some, None, ◌-◌, slice_index, slice_range, slice_set, if◌then◌else◌}
use Rattle.std.specs.List.{list_any}
use Rattle.cell_num.specs.declared.ids.Cause.{Cause}
use Rattle.cell_num.specs.declared.ids.Cause.TheVariants.{Fetch, Jump as BadJump, Illegal, Break, LoadAlign, Load, StoreAlign, Store as BadStore}
use Rattle.cell_num.specs.Bits.{wrap, wrap_ℤ, sign_extended, little}
use Rattle.cell_num.specs.Kinds.{width_of}
use Rattle.cell_isa.specs.declared.insn.Insn.{Insn}
use Rattle.cell_isa.specs.declared.insn.Op.{Op}
use Rattle.cell_isa.specs.declared.insn.Op.TheVariants.{Fence, Ecall, Ebreak}
use Rattle.cell_isa.specs.Instruction.{decode}
use Rattle.cell_isa.specs.declared.memory.Access.{Access}
use Rattle.cell_isa.specs.declared.memory.Access.TheVariants.{Untouched, Loads, Stores}
use Rattle.cell_isa.specs.Meaning.{result_of, is_taken, aim_of, access_of}
use Rattle.cell_world.specs.World.{World, Cell, Region, Permission}
use Rattle.cell_world.specs.Running.Memory.{Write, region_in, end_of}
use Rattle.cell_world.specs.Linked.Field.{place_of, fields_of}

-- the memory as an instruction sees it: regions, and whether one of n bytes from an address on is sealed
pub record Seen : Type 0 where
  pub regions : List Region
  pub is_sealed : ℕ → ℕ → Bool

-- the addresses are of a field of a present cell
abbrev pub is_field_at : ℕ → ℕ → Cell → Bool
is_field_at addr n c =
    list_any (λ f. nat_lt addr (place_of c.placed f + width_of f.kind) && nat_lt (place_of c.placed f) (addr + n)) (fields_of c.object)

abbrev pub seen_in : World → Seen
seen_in w = record { regions = w.regions; is_sealed = λ addr n. list_any (is_field_at addr n) w.cells }

-- registers has x0 to x31; x0 stays 0
abbrev pub with_register : List ℕ → ℕ → ℕ → List ℕ
with_register registers zero n = registers
with_register registers (suc k) n = slice_set registers (suc k) n

-- what there is after an instruction, with its store where it is one, or how it stops
pub data Effect : Type 0 where
  Goes : (registers : List ℕ) → (pc : ℕ) → (store : Option Write) → Effect
  Calls : Effect
  Traps : Cause → Effect

-- the n bytes are in a region with that permission
abbrev pub allows : List Region → (Permission → Bool) → ℕ → ℕ → Bool
allows regions allowed addr n =
    elim (region_in regions addr) [ None ↦ false | Some r ↦ allowed r.permission && nat_le (addr + n) (end_of r) ]

-- the number of the n bytes from the address on
abbrev pub number_read : List Region → ℕ → ℕ → ℕ
number_read regions addr n =
    elim (region_in regions addr) [ None ↦ 0 | Some r ↦ little (slice_range r.bytes (addr - r.start) (addr - r.start + n)) ]

abbrev pub extended : Bool → ℕ → ℕ → ℕ
extended true n value = sign_extended (8 * n) value
extended false n value = value

-- on to the next instruction, with a number in rd
abbrev pub computed : Seen → List ℕ → ℕ → ℕ → ℕ → Effect
computed m registers pc rd value = Goes (with_register registers rd value) (wrap (pc + 4)) None

-- a jump, or a branch that is taken
abbrev pub jumped : Seen → List ℕ → ℕ → ℕ → ℕ → Effect
jumped m registers aim rd value =
    if aim % 4 == 0 then Goes (with_register registers rd value) aim None else Traps BadJump

-- n bytes from the address on go into rd
abbrev pub loaded : Seen → List ℕ → ℕ → ℕ → ℕ → ℕ → Bool → Effect
loaded m registers pc rd addr n with_sign =
    if not (addr % n == 0) then Traps LoadAlign else
    if not (allows m.regions (λ p. p.read) addr n) then Traps Load else
    computed m registers pc rd (extended with_sign n (number_read m.regions addr n))

-- the low n bytes of a number go to the address
abbrev pub stored : Seen → List ℕ → ℕ → ℕ → ℕ → ℕ → Effect
stored m registers pc addr n value =
    if not (addr % n == 0) then Traps StoreAlign else
    if not (allows m.regions (λ p. p.write) addr n && not (m.is_sealed addr n)) then Traps BadStore else
    Goes registers (wrap (pc + 4)) (Some (record { addr = addr; width = n; value = value }))

-- a load, a store, or neither. a and b are rs1 and rs2
abbrev pub accessed : Seen → List ℕ → ℕ → Insn → ℕ → ℕ → Access → Effect
accessed m registers pc insn a b Untouched = computed m registers pc insn.rd (result_of insn.op pc a b insn.imm)
accessed m registers pc insn a b (Loads n with_sign) = loaded m registers pc insn.rd (wrap (a + wrap_ℤ insn.imm)) n with_sign
accessed m registers pc insn a b (Stores n) = stored m registers pc (wrap (a + wrap_ℤ insn.imm)) n b

abbrev pub stepped : Seen → List ℕ → ℕ → Insn → ℕ → ℕ → Effect
stepped m registers pc insn a b =
    if is_taken insn.op a b
    then jumped m registers (aim_of insn.op pc a insn.imm) insn.rd (result_of insn.op pc a b insn.imm)
    else accessed m registers pc insn a b (access_of insn.op)

abbrev pub performed : Seen → List ℕ → ℕ → Insn → Op → Effect
performed m registers pc insn Ecall = Calls
performed m registers pc insn Ebreak = Traps Break
performed m registers pc insn Fence = Goes registers (wrap (pc + 4)) None
performed m registers pc insn _ = stepped m registers pc insn (slice_index registers insn.rs1) (slice_index registers insn.rs2)

abbrev pub execute_word : Seen → List ℕ → ℕ → ℕ → Effect
execute_word m registers pc code =
    elim (decode code) [ None ↦ Traps Illegal | Some insn ↦ performed m registers pc insn insn.op ]

-- the instruction at the pc
abbrev pub execute : Seen → List ℕ → ℕ → Effect
execute m registers pc =
    if (pc % 4 == 0) && allows m.regions (λ p. p.exec) pc 4
    then execute_word m registers pc (number_read m.regions pc 4)
    else Traps Fetch

-- What every store of an instruction has, the instruction has: it stores where that is permitted, and not over a seal, or not at all.
use Rattle.std.proofs.Common.{◌≡◌, refl, ℕ, ◌+◌, Bool, true, false, cond, not, ◌&&◌, List, Option, Some, None}
use Rattle.std.specs.Prelude.{◌==◌, ◌%◌, slice_index}
use Rattle.cell_num.specs.Bits.{wrap, wrap_ℤ}
use Rattle.cell_num.specs.declared.ids.Cause.TheVariants.{Fetch, Jump as BadJump, Illegal, LoadAlign, Load, StoreAlign, Store as BadStore}
use Rattle.cell_isa.specs.declared.insn.Insn.{Insn}
use Rattle.cell_isa.specs.declared.insn.Op.{Op}
use Rattle.cell_isa.specs.declared.insn.Op.TheVariants.{Fence, Ecall, Ebreak}
use Rattle.cell_isa.specs.Instruction.{decode}
use Rattle.cell_isa.specs.declared.memory.Access.{Access}
use Rattle.cell_isa.specs.declared.memory.Access.TheVariants.{Untouched, Loads, Stores}
use Rattle.cell_isa.specs.Meaning.{result_of, is_taken, aim_of, access_of}
use Rattle.cell_world.specs.Running.Memory.{Write}
use Rattle.cell_world.specs.Running.Execute.{Seen, Effect, Goes, Calls, Traps, with_register, allows, number_read, extended, computed, jumped, loaded, stored, accessed, stepped, performed, execute_word, execute}

-- of the store that an instruction makes, or of none
abbrev pub ByStore : (Option Write → Type 0) → Effect → Type 0
ByStore P (Goes registers pc store) = P store
ByStore P Calls = Unit {0}
ByStore P (Traps cause) = Unit {0}

module _ (m : Seen) (P : Option Write → Type 0) (none : P None)
    (some : (x : Write) → allows m.regions (λ p. p.write) x.addr x.width ≡ true → m.is_sealed x.addr x.width ≡ false → P (Some x)) where
  by_jump : (registers : List ℕ) (aim rd value : ℕ) → ByStore P (jumped m registers aim rd value)
  by_jump registers aim rd value = go (aim % 4 == 0)
    where
      go : (b : Bool) → ByStore P (cond b (Goes (with_register registers rd value) aim None) (Traps BadJump))
      go true = none
      go false = tt

  by_load : (registers : List ℕ) (pc rd addr n : ℕ) (with_sign : Bool) → ByStore P (loaded m registers pc rd addr n with_sign)
  by_load registers pc rd addr n with_sign = go (addr % n == 0) (allows m.regions (λ p. p.read) addr n)
    where
      go : (b c : Bool) → ByStore P (cond (not b) (Traps LoadAlign) (cond (not c) (Traps Load) (computed m registers pc rd (extended with_sign n (number_read m.regions addr n)))))
      go false c = tt
      go true false = tt
      go true true = none

  by_write : (registers : List ℕ) (pc addr n value : ℕ) → ByStore P (stored m registers pc addr n value)
  by_write registers pc addr n value = go (addr % n == 0) (allows m.regions (λ p. p.write) addr n) (m.is_sealed addr n) refl refl
    where
      go : (b c d : Bool) → allows m.regions (λ p. p.write) addr n ≡ c → m.is_sealed addr n ≡ d
          → ByStore P (cond (not b) (Traps StoreAlign) (cond (not (c && not d)) (Traps BadStore) (Goes registers (wrap (pc + 4)) (Some (record { addr = addr; width = n; value = value })))))
      go false c d may free = tt
      go true false d may free = tt
      go true true true may free = tt
      go true true false may free = some (record { addr = addr; width = n; value = value }) may free

  by_access : (registers : List ℕ) (pc : ℕ) (insn : Insn) (a b : ℕ) (access : Access) → ByStore P (accessed m registers pc insn a b access)
  by_access registers pc insn a b Untouched = none
  by_access registers pc insn a b (Loads n with_sign) = by_load registers pc insn.rd (wrap (a + wrap_ℤ insn.imm)) n with_sign
  by_access registers pc insn a b (Stores n) = by_write registers pc (wrap (a + wrap_ℤ insn.imm)) n b

  by_step : (registers : List ℕ) (pc : ℕ) (insn : Insn) (a b : ℕ) → ByStore P (stepped m registers pc insn a b)
  by_step registers pc insn a b = go (is_taken insn.op a b)
    where
      go : (x : Bool) → ByStore P (cond x (jumped m registers (aim_of insn.op pc a insn.imm) insn.rd (result_of insn.op pc a b insn.imm)) (accessed m registers pc insn a b (access_of insn.op)))
      go true = by_jump registers (aim_of insn.op pc a insn.imm) insn.rd (result_of insn.op pc a b insn.imm)
      go false = by_access registers pc insn a b (access_of insn.op)

  by_instruction : (registers : List ℕ) (pc : ℕ) (insn : Insn) (op : Op) → ByStore P (performed m registers pc insn op)
  by_instruction registers pc insn Ecall = tt
  by_instruction registers pc insn Ebreak = tt
  by_instruction registers pc insn Fence = none
  by_instruction registers pc insn _ = by_step registers pc insn (slice_index registers insn.rs1) (slice_index registers insn.rs2)

  by_word : (registers : List ℕ) (pc code : ℕ) → ByStore P (execute_word m registers pc code)
  by_word registers pc code = go (decode code)
    where
      go : (o : Option Insn) → ByStore P (elim o [ None ↦ Traps Illegal | Some insn ↦ performed m registers pc insn insn.op ])
      go None = tt
      go (Some insn) = by_instruction registers pc insn insn.op

  pub by_store : (registers : List ℕ) (pc : ℕ) → ByStore P (execute m registers pc)
  by_store registers pc = go ((pc % 4 == 0) && allows m.regions (λ p. p.exec) pc 4)
    where
      go : (b : Bool) → ByStore P (cond b (execute_word m registers pc (number_read m.regions pc 4)) (Traps Fetch))
      go true = by_word registers pc (number_read m.regions pc 4)
      go false = tt

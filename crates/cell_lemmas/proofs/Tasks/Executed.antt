-- What a turn leaves of registers and regions, be it an instruction or a call.
use Rattle.std.proofs.Common.{◌≡◌, refl, ◌∙◌, ap, arith, ℕ, zero, suc, ◌+◌, ◌⊎◌, inl, inr, Bool, true, false, cond, not, ◌&&◌, List, length, map, Option, Some, None}
use Rattle.std.specs.Prelude.{◌==◌, ◌%◌, slice_index}
use Rattle.std.proofs.lemmas.List.{length-set, get_or-set_other}
use Rattle.cell_num.specs.declared.ids.Cause.TheVariants.{Fetch, Jump as BadJump, Illegal, LoadAlign, Load, StoreAlign, Store as BadStore}
use Rattle.cell_num.specs.Bits.{bytes_of, wrap, wrap_ℤ}
use Rattle.cell_isa.specs.declared.insn.Insn.{Insn}
use Rattle.cell_isa.specs.declared.insn.Op.{Op}
use Rattle.cell_isa.specs.declared.insn.Op.TheVariants.{Fence, Ecall, Ebreak}
use Rattle.cell_isa.specs.Instruction.{decode}
use Rattle.cell_isa.specs.declared.memory.Access.{Access}
use Rattle.cell_isa.specs.declared.memory.Access.TheVariants.{Untouched, Loads, Stores}
use Rattle.cell_isa.specs.Meaning.{result_of, is_taken, aim_of, access_of}
use Rattle.cell_world.specs.World.{Region}
use Rattle.cell_world.specs.Running.Memory.{put_by, written}
use Rattle.cell_world.specs.Running.Execute.{Seen, Effect, Goes, Calls, Traps, with_register, allows, number_read, extended, computed, jumped, loaded, stored, accessed, stepped, performed, execute_word, execute}
use Rattle.cell_world.specs.Running.Move.{Hart, Row, Ends, Passes, Yields, PutsOut, Answers, Refuses, Column, Move, called, moved_by, move}
use Rattle.cell_lemmas.proofs.Fields.FieldsInside.{length-bytes_of}

-- there are 32 registers, and x0 is 0
abbrev pub Whole : List ℕ → Type 0
Whole registers = (length registers ≡ 32) × (slice_index registers 0 ≡ 0)

-- bytes that may be stored from the address on: in a region that is writable, and none of them is sealed
pub record Store (m : Seen) (regions : List Region) : Type 0 where
  pub addr : ℕ
  pub new : List ℕ
  pub may : allows m.regions (λ p. p.write) addr (length new) ≡ true
  pub free : m.is_sealed addr (length new) ≡ false
  pub is : regions ≡ map (λ r. written r addr new) m.regions

-- the regions are those of the memory, or those after a store
abbrev pub Stored : Seen → List Region → Type 0
Stored m regions = (regions ≡ m.regions) ⊎ Store m regions

-- of registers, memory and what an instruction makes of them
abbrev pub Good : Seen → List ℕ → Effect → Type 0
Good m old (Goes registers pc store) = (Whole old → Whole registers) × Stored m (put_by m.regions store)
Good m old Calls = Unit {0}
Good m old (Traps cause) = Unit {0}

whole_with : (registers : List ℕ) (k n : ℕ) → Whole registers → Whole (with_register registers k n)
whole_with registers zero n h = h
whole_with registers (suc k) n h = (length-set registers (suc k) n ∙ h.0, get_or-set_other registers (suc k) 0 n 0 (omega arith) ∙ h.1)

module _ (m : Seen) where
  good_computed : (registers : List ℕ) (pc rd value : ℕ) → Good m registers (computed m registers pc rd value)
  good_computed registers pc rd value = (whole_with registers rd value, inl refl)

  good_jumped : (registers : List ℕ) (aim rd value : ℕ) → Good m registers (jumped m registers aim rd value)
  good_jumped registers aim rd value = go (aim % 4 == 0)
    where
      go : (b : Bool) → Good m registers (cond b (Goes (with_register registers rd value) aim None) (Traps BadJump))
      go true = (whole_with registers rd value, inl refl)
      go false = tt

  good_loaded : (registers : List ℕ) (pc rd addr n : ℕ) (with_sign : Bool) → Good m registers (loaded m registers pc rd addr n with_sign)
  good_loaded registers pc rd addr n with_sign = go (addr % n == 0) (allows m.regions (λ p. p.read) addr n)
    where
      go : (b c : Bool) → Good m registers (cond (not b) (Traps LoadAlign) (cond (not c) (Traps Load) (computed m registers pc rd (extended with_sign n (number_read m.regions addr n)))))
      go false c = tt
      go true false = tt
      go true true = good_computed registers pc rd _

  good_stored : (registers : List ℕ) (pc addr n value : ℕ) → Good m registers (stored m registers pc addr n value)
  good_stored registers pc addr n value = go (addr % n == 0) (allows m.regions (λ p. p.write) addr n) (m.is_sealed addr n) refl refl
    where
      go : (b c d : Bool) → allows m.regions (λ p. p.write) addr n ≡ c → m.is_sealed addr n ≡ d
          → Good m registers (cond (not b) (Traps StoreAlign) (cond (not (c && not d)) (Traps BadStore) (Goes registers (wrap (pc + 4)) (Some (record { addr = addr; width = n; value = value })))))
      go false c d p q = tt
      go true false d p q = tt
      go true true true p q = tt
      go true true false p q =
          let l : length (bytes_of n value) ≡ n = length-bytes_of n value in (
            λ h. h,
            inr (record {
              addr = addr;
              new = bytes_of n value;
              may = ap (λ k. allows m.regions (λ x. x.write) addr k) l ∙ p;
              free = ap (λ k. m.is_sealed addr k) l ∙ q;
              is = refl;
            }),
          )

  good_accessed : (registers : List ℕ) (pc : ℕ) (insn : Insn) (a b : ℕ) (access : Access) → Good m registers (accessed m registers pc insn a b access)
  good_accessed registers pc insn a b Untouched = good_computed registers pc insn.rd _
  good_accessed registers pc insn a b (Loads n with_sign) = good_loaded registers pc insn.rd (wrap (a + wrap_ℤ insn.imm)) n with_sign
  good_accessed registers pc insn a b (Stores n) = good_stored registers pc (wrap (a + wrap_ℤ insn.imm)) n b

  good_stepped : (registers : List ℕ) (pc : ℕ) (insn : Insn) (a b : ℕ) → Good m registers (stepped m registers pc insn a b)
  good_stepped registers pc insn a b = go (is_taken insn.op a b)
    where
      go : (x : Bool) → Good m registers (cond x (jumped m registers (aim_of insn.op pc a insn.imm) insn.rd (result_of insn.op pc a b insn.imm)) (accessed m registers pc insn a b (access_of insn.op)))
      go true = good_jumped registers (aim_of insn.op pc a insn.imm) insn.rd (result_of insn.op pc a b insn.imm)
      go false = good_accessed registers pc insn a b (access_of insn.op)

  good_performed : (registers : List ℕ) (pc : ℕ) (insn : Insn) (op : Op) → Good m registers (performed m registers pc insn op)
  good_performed registers pc insn Ecall = tt
  good_performed registers pc insn Ebreak = tt
  good_performed registers pc insn Fence = (λ h. h, inl refl)
  good_performed registers pc insn _ = good_stepped registers pc insn (slice_index registers insn.rs1) (slice_index registers insn.rs2)

  good_word : (registers : List ℕ) (pc code : ℕ) → Good m registers (execute_word m registers pc code)
  good_word registers pc code = go (decode code)
    where
      go : (o : Option Insn) → Good m registers (elim o as (λ _. Effect) [ None ↦ Traps Illegal | Some insn ↦ performed m registers pc insn insn.op ])
      go None = tt
      go (Some insn) = good_performed registers pc insn insn.op

  pub good_execute : (registers : List ℕ) (pc : ℕ) → Good m registers (execute m registers pc)
  good_execute registers pc = go ((pc % 4 == 0) && allows m.regions (λ p. p.exec) pc 4)
    where
      go : (b : Bool) → Good m registers (cond b (execute_word m registers pc (number_read m.regions pc 4)) (Traps Fetch))
      go true = good_word registers pc (number_read m.regions pc 4)
      go false = tt

-- of the memory and the hart before a turn, and what the turn makes of them
pub record GoodMove (m : Seen) (h : Hart) (after : Move) : Type 0 where
  pub whole : Whole h.registers → Whole after.hart.registers
  pub stored : Stored m after.regions

module _ (m : Seen) (h : Hart) where
  good_call : (row : Row) → GoodMove m h (called m.regions h row)
  good_call Ends = record { whole = λ k. k; stored = inl refl }
  good_call Passes = record { whole = λ k. k; stored = inl refl }
  good_call Yields = record { whole = λ k. k; stored = inl refl }
  good_call (PutsOut bytes) = record { whole = λ k. k; stored = inl refl }
  good_call (Answers value) = record { whole = whole_with h.registers 10 value; stored = inl refl }
  good_call Refuses = record { whole = λ k. k; stored = inl refl }

  good_moved : (column : Column) (e : Effect) → Good m h.registers e → GoodMove m h (moved_by column m h e)
  good_moved column (Goes registers pc store) g = record { whole = g.0; stored = g.1 }
  good_moved column Calls g = good_call (column m h.registers)
  good_moved column (Traps cause) g = record { whole = λ k. k; stored = inl refl }

  pub good_move : (column : Column) → GoodMove m h (move column m h)
  good_move column = good_moved column (execute m h.registers h.pc) (good_execute m h.registers h.pc)

-- An instruction does the same where two views of the same regions agree on the seals of what may be stored to.
use Rattle.std.proofs.Common.{◌≡◌, refl, ap, arith, ℕ, ◌+◌, ◌≤◌, Bool, true, false, cond, not, ◌&&◌, List, Option, Some, None}
use Rattle.std.specs.Prelude.{◌==◌, ◌%◌, slice_index}
use Rattle.cell_num.specs.declared.ids.Cause.TheVariants.{Fetch, Illegal, StoreAlign, Store as BadStore}
use Rattle.cell_num.specs.Bits.{wrap, wrap_ℤ}
use Rattle.cell_isa.specs.declared.insn.Insn.{Insn}
use Rattle.cell_isa.specs.declared.insn.Op.{Op}
use Rattle.cell_isa.specs.declared.insn.Op.TheVariants.{Lui, Auipc, Jal, Jalr, Beq, Bne, Blt, Bge, Bltu, Bgeu, Lb, Lh, Lw, Ld, Lbu, Lhu, Lwu, Sb, Sh, Sw, Sd, Addi, Slti, Sltiu, Xori, Ori, Andi, Slli, Srli, Srai, Add, Sub, Sll, Slt, Sltu, Xor, Srl, Sra, Or, And, Addiw, Slliw, Srliw, Sraiw, Addw, Subw}
use Rattle.cell_isa.specs.declared.insn.Op.TheVariants.{Sllw, Srlw, Sraw, Mul, Mulh, Mulhsu, Mulhu, Div, Divu, Rem, Remu, Mulw, Divw, Divuw, Remw, Remuw, Fence, Ecall, Ebreak}
use Rattle.cell_isa.specs.Instruction.{decode}
use Rattle.cell_isa.specs.declared.memory.Access.{Access}
use Rattle.cell_isa.specs.declared.memory.Access.TheVariants.{Untouched, Loads, Stores}
use Rattle.cell_isa.specs.Meaning.{result_of, is_taken, aim_of, access_of}
use Rattle.cell_world.specs.World.{Region}
use Rattle.cell_world.specs.Running.Execute.{Seen, Effect, Goes, Traps, allows, number_read, jumped, stored, accessed, stepped, performed, execute_word, execute}

abbrev pub seen : List Region → (ℕ → ℕ → Bool) → Seen
seen regions sealed = record { regions = regions; is_sealed = sealed }

-- a store has a byte
abbrev StoresSome : Access → Type 0
StoresSome (Stores n) = 1 ≤ n
StoresSome _ = Unit {0}

stores_some : (op : Op) → StoresSome (access_of op)
stores_some Lui = tt
stores_some Auipc = tt
stores_some Jal = tt
stores_some Jalr = tt
stores_some Beq = tt
stores_some Bne = tt
stores_some Blt = tt
stores_some Bge = tt
stores_some Bltu = tt
stores_some Bgeu = tt
stores_some Lb = tt
stores_some Lh = tt
stores_some Lw = tt
stores_some Ld = tt
stores_some Lbu = tt
stores_some Lhu = tt
stores_some Lwu = tt
stores_some Sb = omega arith
stores_some Sh = omega arith
stores_some Sw = omega arith
stores_some Sd = omega arith
stores_some Addi = tt
stores_some Slti = tt
stores_some Sltiu = tt
stores_some Xori = tt
stores_some Ori = tt
stores_some Andi = tt
stores_some Slli = tt
stores_some Srli = tt
stores_some Srai = tt
stores_some Add = tt
stores_some Sub = tt
stores_some Sll = tt
stores_some Slt = tt
stores_some Sltu = tt
stores_some Xor = tt
stores_some Srl = tt
stores_some Sra = tt
stores_some Or = tt
stores_some And = tt
stores_some Addiw = tt
stores_some Slliw = tt
stores_some Srliw = tt
stores_some Sraiw = tt
stores_some Addw = tt
stores_some Subw = tt
stores_some Sllw = tt
stores_some Srlw = tt
stores_some Sraw = tt
stores_some Mul = tt
stores_some Mulh = tt
stores_some Mulhsu = tt
stores_some Mulhu = tt
stores_some Div = tt
stores_some Divu = tt
stores_some Rem = tt
stores_some Remu = tt
stores_some Mulw = tt
stores_some Divw = tt
stores_some Divuw = tt
stores_some Remw = tt
stores_some Remuw = tt
stores_some Fence = tt
stores_some Ecall = tt
stores_some Ebreak = tt

module _ (regions : List Region) (f g : ℕ → ℕ → Bool)
    (agree : (addr n : ℕ) → 1 ≤ n → allows regions (λ p. p.write) addr n ≡ true → f addr n ≡ g addr n) where
  abbrev tried : List ℕ → ℕ → ℕ → ℕ → ℕ → Bool → Effect
  tried xs pc addr n value b = cond (not b) (Traps BadStore) (Goes xs (wrap (pc + 4)) (Some (record { addr = addr; width = n; value = value })))

  stored_alike : (xs : List ℕ) (pc addr n value : ℕ) → 1 ≤ n → stored (seen regions f) xs pc addr n value ≡ stored (seen regions g) xs pc addr n value
  stored_alike xs pc addr n value some = go (addr % n == 0) (allows regions (λ p. p.write) addr n) refl
    where
      go : (b c : Bool) → allows regions (λ p. p.write) addr n ≡ c
          → cond (not b) (Traps StoreAlign) (tried xs pc addr n value (c && not (f addr n))) ≡ cond (not b) (Traps StoreAlign) (tried xs pc addr n value (c && not (g addr n)))
      go false c e = refl
      go true false e = refl
      go true true e = ap (λ s. tried xs pc addr n value (true && not s)) (agree addr n some e)

  accessed_alike : (xs : List ℕ) (pc : ℕ) (insn : Insn) (a b : ℕ) (access : Access) → StoresSome access → accessed (seen regions f) xs pc insn a b access ≡ accessed (seen regions g) xs pc insn a b access
  accessed_alike xs pc insn a b Untouched s = refl
  accessed_alike xs pc insn a b (Loads n with_sign) s = refl
  accessed_alike xs pc insn a b (Stores n) s = stored_alike xs pc (wrap (a + wrap_ℤ insn.imm)) n b s

  stepped_alike : (xs : List ℕ) (pc : ℕ) (insn : Insn) (a b : ℕ) → stepped (seen regions f) xs pc insn a b ≡ stepped (seen regions g) xs pc insn a b
  stepped_alike xs pc insn a b =
      ap (λ e. cond (is_taken insn.op a b) (jumped (seen regions f) xs (aim_of insn.op pc a insn.imm) insn.rd (result_of insn.op pc a b insn.imm)) e) (accessed_alike xs pc insn a b (access_of insn.op) (stores_some insn.op))

  performed_alike : (xs : List ℕ) (pc : ℕ) (insn : Insn) (op : Op) → performed (seen regions f) xs pc insn op ≡ performed (seen regions g) xs pc insn op
  performed_alike xs pc insn Ecall = refl
  performed_alike xs pc insn Ebreak = refl
  performed_alike xs pc insn Fence = refl
  performed_alike xs pc insn Lui = stepped_alike xs pc insn (slice_index xs insn.rs1) (slice_index xs insn.rs2)
  performed_alike xs pc insn Auipc = stepped_alike xs pc insn (slice_index xs insn.rs1) (slice_index xs insn.rs2)
  performed_alike xs pc insn Jal = stepped_alike xs pc insn (slice_index xs insn.rs1) (slice_index xs insn.rs2)
  performed_alike xs pc insn Jalr = stepped_alike xs pc insn (slice_index xs insn.rs1) (slice_index xs insn.rs2)
  performed_alike xs pc insn Beq = stepped_alike xs pc insn (slice_index xs insn.rs1) (slice_index xs insn.rs2)
  performed_alike xs pc insn Bne = stepped_alike xs pc insn (slice_index xs insn.rs1) (slice_index xs insn.rs2)
  performed_alike xs pc insn Blt = stepped_alike xs pc insn (slice_index xs insn.rs1) (slice_index xs insn.rs2)
  performed_alike xs pc insn Bge = stepped_alike xs pc insn (slice_index xs insn.rs1) (slice_index xs insn.rs2)
  performed_alike xs pc insn Bltu = stepped_alike xs pc insn (slice_index xs insn.rs1) (slice_index xs insn.rs2)
  performed_alike xs pc insn Bgeu = stepped_alike xs pc insn (slice_index xs insn.rs1) (slice_index xs insn.rs2)
  performed_alike xs pc insn Lb = stepped_alike xs pc insn (slice_index xs insn.rs1) (slice_index xs insn.rs2)
  performed_alike xs pc insn Lh = stepped_alike xs pc insn (slice_index xs insn.rs1) (slice_index xs insn.rs2)
  performed_alike xs pc insn Lw = stepped_alike xs pc insn (slice_index xs insn.rs1) (slice_index xs insn.rs2)
  performed_alike xs pc insn Ld = stepped_alike xs pc insn (slice_index xs insn.rs1) (slice_index xs insn.rs2)
  performed_alike xs pc insn Lbu = stepped_alike xs pc insn (slice_index xs insn.rs1) (slice_index xs insn.rs2)
  performed_alike xs pc insn Lhu = stepped_alike xs pc insn (slice_index xs insn.rs1) (slice_index xs insn.rs2)
  performed_alike xs pc insn Lwu = stepped_alike xs pc insn (slice_index xs insn.rs1) (slice_index xs insn.rs2)
  performed_alike xs pc insn Sb = stepped_alike xs pc insn (slice_index xs insn.rs1) (slice_index xs insn.rs2)
  performed_alike xs pc insn Sh = stepped_alike xs pc insn (slice_index xs insn.rs1) (slice_index xs insn.rs2)
  performed_alike xs pc insn Sw = stepped_alike xs pc insn (slice_index xs insn.rs1) (slice_index xs insn.rs2)
  performed_alike xs pc insn Sd = stepped_alike xs pc insn (slice_index xs insn.rs1) (slice_index xs insn.rs2)
  performed_alike xs pc insn Addi = stepped_alike xs pc insn (slice_index xs insn.rs1) (slice_index xs insn.rs2)
  performed_alike xs pc insn Slti = stepped_alike xs pc insn (slice_index xs insn.rs1) (slice_index xs insn.rs2)
  performed_alike xs pc insn Sltiu = stepped_alike xs pc insn (slice_index xs insn.rs1) (slice_index xs insn.rs2)
  performed_alike xs pc insn Xori = stepped_alike xs pc insn (slice_index xs insn.rs1) (slice_index xs insn.rs2)
  performed_alike xs pc insn Ori = stepped_alike xs pc insn (slice_index xs insn.rs1) (slice_index xs insn.rs2)
  performed_alike xs pc insn Andi = stepped_alike xs pc insn (slice_index xs insn.rs1) (slice_index xs insn.rs2)
  performed_alike xs pc insn Slli = stepped_alike xs pc insn (slice_index xs insn.rs1) (slice_index xs insn.rs2)
  performed_alike xs pc insn Srli = stepped_alike xs pc insn (slice_index xs insn.rs1) (slice_index xs insn.rs2)
  performed_alike xs pc insn Srai = stepped_alike xs pc insn (slice_index xs insn.rs1) (slice_index xs insn.rs2)
  performed_alike xs pc insn Add = stepped_alike xs pc insn (slice_index xs insn.rs1) (slice_index xs insn.rs2)
  performed_alike xs pc insn Sub = stepped_alike xs pc insn (slice_index xs insn.rs1) (slice_index xs insn.rs2)
  performed_alike xs pc insn Sll = stepped_alike xs pc insn (slice_index xs insn.rs1) (slice_index xs insn.rs2)
  performed_alike xs pc insn Slt = stepped_alike xs pc insn (slice_index xs insn.rs1) (slice_index xs insn.rs2)
  performed_alike xs pc insn Sltu = stepped_alike xs pc insn (slice_index xs insn.rs1) (slice_index xs insn.rs2)
  performed_alike xs pc insn Xor = stepped_alike xs pc insn (slice_index xs insn.rs1) (slice_index xs insn.rs2)
  performed_alike xs pc insn Srl = stepped_alike xs pc insn (slice_index xs insn.rs1) (slice_index xs insn.rs2)
  performed_alike xs pc insn Sra = stepped_alike xs pc insn (slice_index xs insn.rs1) (slice_index xs insn.rs2)
  performed_alike xs pc insn Or = stepped_alike xs pc insn (slice_index xs insn.rs1) (slice_index xs insn.rs2)
  performed_alike xs pc insn And = stepped_alike xs pc insn (slice_index xs insn.rs1) (slice_index xs insn.rs2)
  performed_alike xs pc insn Addiw = stepped_alike xs pc insn (slice_index xs insn.rs1) (slice_index xs insn.rs2)
  performed_alike xs pc insn Slliw = stepped_alike xs pc insn (slice_index xs insn.rs1) (slice_index xs insn.rs2)
  performed_alike xs pc insn Srliw = stepped_alike xs pc insn (slice_index xs insn.rs1) (slice_index xs insn.rs2)
  performed_alike xs pc insn Sraiw = stepped_alike xs pc insn (slice_index xs insn.rs1) (slice_index xs insn.rs2)
  performed_alike xs pc insn Addw = stepped_alike xs pc insn (slice_index xs insn.rs1) (slice_index xs insn.rs2)
  performed_alike xs pc insn Subw = stepped_alike xs pc insn (slice_index xs insn.rs1) (slice_index xs insn.rs2)
  performed_alike xs pc insn Sllw = stepped_alike xs pc insn (slice_index xs insn.rs1) (slice_index xs insn.rs2)
  performed_alike xs pc insn Srlw = stepped_alike xs pc insn (slice_index xs insn.rs1) (slice_index xs insn.rs2)
  performed_alike xs pc insn Sraw = stepped_alike xs pc insn (slice_index xs insn.rs1) (slice_index xs insn.rs2)
  performed_alike xs pc insn Mul = stepped_alike xs pc insn (slice_index xs insn.rs1) (slice_index xs insn.rs2)
  performed_alike xs pc insn Mulh = stepped_alike xs pc insn (slice_index xs insn.rs1) (slice_index xs insn.rs2)
  performed_alike xs pc insn Mulhsu = stepped_alike xs pc insn (slice_index xs insn.rs1) (slice_index xs insn.rs2)
  performed_alike xs pc insn Mulhu = stepped_alike xs pc insn (slice_index xs insn.rs1) (slice_index xs insn.rs2)
  performed_alike xs pc insn Div = stepped_alike xs pc insn (slice_index xs insn.rs1) (slice_index xs insn.rs2)
  performed_alike xs pc insn Divu = stepped_alike xs pc insn (slice_index xs insn.rs1) (slice_index xs insn.rs2)
  performed_alike xs pc insn Rem = stepped_alike xs pc insn (slice_index xs insn.rs1) (slice_index xs insn.rs2)
  performed_alike xs pc insn Remu = stepped_alike xs pc insn (slice_index xs insn.rs1) (slice_index xs insn.rs2)
  performed_alike xs pc insn Mulw = stepped_alike xs pc insn (slice_index xs insn.rs1) (slice_index xs insn.rs2)
  performed_alike xs pc insn Divw = stepped_alike xs pc insn (slice_index xs insn.rs1) (slice_index xs insn.rs2)
  performed_alike xs pc insn Divuw = stepped_alike xs pc insn (slice_index xs insn.rs1) (slice_index xs insn.rs2)
  performed_alike xs pc insn Remw = stepped_alike xs pc insn (slice_index xs insn.rs1) (slice_index xs insn.rs2)
  performed_alike xs pc insn Remuw = stepped_alike xs pc insn (slice_index xs insn.rs1) (slice_index xs insn.rs2)

  abbrev decoded : (ℕ → ℕ → Bool) → List ℕ → ℕ → Option Insn → Effect
  decoded h xs pc o = elim o [ None ↦ Traps Illegal | Some insn ↦ performed (seen regions h) xs pc insn insn.op ]

  word_alike : (xs : List ℕ) (pc code : ℕ) → execute_word (seen regions f) xs pc code ≡ execute_word (seen regions g) xs pc code
  word_alike xs pc code = go (decode code)
    where
      go : (o : Option Insn) → decoded f xs pc o ≡ decoded g xs pc o
      go None = refl
      go (Some insn) = performed_alike xs pc insn insn.op

  pub execute_alike : (xs : List ℕ) (pc : ℕ) → execute (seen regions f) xs pc ≡ execute (seen regions g) xs pc
  execute_alike xs pc =
      ap (λ e. cond ((pc % 4 == 0) && allows regions (λ p. p.exec) pc 4) e (Traps Fetch)) (word_alike xs pc (number_read regions pc 4))

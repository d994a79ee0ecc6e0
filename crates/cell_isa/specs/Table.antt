-- The table of instructions.
--     row_of op             the row of an operation: its one word, or the format and the numbers that its words have
--     operation_of word     the operation of whose words this is one
-- RISC-V unprivileged manual, "RV32I Base Integer Instruction Set", "RV64I" and "M Extension"; the encodings stand in
-- "RV32/64G Instruction Set Listings".
use Rattle.std.specs.Prelude.{ℕ, ◌/◌, ◌==◌, Bool, true, ◌&&◌, List, [], ◌∷◌, Option, find}
use Rattle.cell_isa.specs.declared.insn.Op.{Op}
use Rattle.cell_isa.specs.declared.insn.Op.TheVariants.{Lui, Auipc, Jal, Jalr, Beq, Bne, Blt, Bge, Bltu, Bgeu, Lb, Lh, Lw, Ld, Lbu, Lhu, Lwu, Sb, Sh, Sw, Sd, Addi, Slti, Sltiu, Xori, Ori, Andi, Slli, Srli, Srai, Add, Sub, Sll, Slt, Sltu, Xor, Srl, Sra, Or, And, Addiw, Slliw, Srliw, Sraiw, Addw, Subw}
use Rattle.cell_isa.specs.declared.insn.Op.TheVariants.{Sllw, Srlw, Sraw, Mul, Mulh, Mulhsu, Mulhu, Div, Divu, Rem, Remu, Mulw, Divw, Divuw, Remw, Remuw, Fence, Ecall, Ebreak}
use Rattle.cell_isa.specs.declared.format.Format.{Format}
use Rattle.cell_isa.specs.declared.format.Format.TheVariants.{Upper, Jump, Immediate, Branch, Store, Register, Shift, ShiftWord}
use Rattle.cell_isa.specs.declared.table.Row.{Row}
use Rattle.cell_isa.specs.declared.table.Row.TheVariants.{Word, Fields}
use Rattle.cell_num.specs.Bits.{bits_at}

-- format, opcode, funct3 and funct7, a number without a place being 0; ecall and ebreak are one word each
abbrev pub row_of : Op → Row
row_of Lui = Fields Upper 0x37 0 0
row_of Auipc = Fields Upper 0x17 0 0
row_of Jal = Fields Jump 0x6f 0 0
row_of Jalr = Fields Immediate 0x67 0 0
row_of Beq = Fields Branch 0x63 0 0
row_of Bne = Fields Branch 0x63 1 0
row_of Blt = Fields Branch 0x63 4 0
row_of Bge = Fields Branch 0x63 5 0
row_of Bltu = Fields Branch 0x63 6 0
row_of Bgeu = Fields Branch 0x63 7 0
row_of Lb = Fields Immediate 0x3 0 0
row_of Lh = Fields Immediate 0x3 1 0
row_of Lw = Fields Immediate 0x3 2 0
row_of Ld = Fields Immediate 0x3 3 0
row_of Lbu = Fields Immediate 0x3 4 0
row_of Lhu = Fields Immediate 0x3 5 0
row_of Lwu = Fields Immediate 0x3 6 0
row_of Sb = Fields Store 0x23 0 0
row_of Sh = Fields Store 0x23 1 0
row_of Sw = Fields Store 0x23 2 0
row_of Sd = Fields Store 0x23 3 0
row_of Addi = Fields Immediate 0x13 0 0
row_of Slti = Fields Immediate 0x13 2 0
row_of Sltiu = Fields Immediate 0x13 3 0
row_of Xori = Fields Immediate 0x13 4 0
row_of Ori = Fields Immediate 0x13 6 0
row_of Andi = Fields Immediate 0x13 7 0
row_of Slli = Fields Shift 0x13 1 0
row_of Srli = Fields Shift 0x13 5 0
row_of Srai = Fields Shift 0x13 5 0x20
row_of Add = Fields Register 0x33 0 0
row_of Sub = Fields Register 0x33 0 0x20
row_of Sll = Fields Register 0x33 1 0
row_of Slt = Fields Register 0x33 2 0
row_of Sltu = Fields Register 0x33 3 0
row_of Xor = Fields Register 0x33 4 0
row_of Srl = Fields Register 0x33 5 0
row_of Sra = Fields Register 0x33 5 0x20
row_of Or = Fields Register 0x33 6 0
row_of And = Fields Register 0x33 7 0
row_of Addiw = Fields Immediate 0x1b 0 0
row_of Slliw = Fields ShiftWord 0x1b 1 0
row_of Srliw = Fields ShiftWord 0x1b 5 0
row_of Sraiw = Fields ShiftWord 0x1b 5 0x20
row_of Addw = Fields Register 0x3b 0 0
row_of Subw = Fields Register 0x3b 0 0x20
row_of Sllw = Fields Register 0x3b 1 0
row_of Srlw = Fields Register 0x3b 5 0
row_of Sraw = Fields Register 0x3b 5 0x20
row_of Mul = Fields Register 0x33 0 1
row_of Mulh = Fields Register 0x33 1 1
row_of Mulhsu = Fields Register 0x33 2 1
row_of Mulhu = Fields Register 0x33 3 1
row_of Div = Fields Register 0x33 4 1
row_of Divu = Fields Register 0x33 5 1
row_of Rem = Fields Register 0x33 6 1
row_of Remu = Fields Register 0x33 7 1
row_of Mulw = Fields Register 0x3b 0 1
row_of Divw = Fields Register 0x3b 4 1
row_of Divuw = Fields Register 0x3b 5 1
row_of Remw = Fields Register 0x3b 6 1
row_of Remuw = Fields Register 0x3b 7 1
row_of Fence = Fields Immediate 0xf 0 0
row_of Ecall = Word 0x00000073
row_of Ebreak = Word 0x00100073

abbrev pub ops : List Op
ops =
    Lui ∷ Auipc ∷ Jal ∷ Jalr ∷ Beq ∷ Bne ∷ Blt ∷ Bge ∷ Bltu ∷
    Bgeu ∷ Lb ∷ Lh ∷ Lw ∷ Ld ∷ Lbu ∷ Lhu ∷ Lwu ∷ Sb ∷
    Sh ∷ Sw ∷ Sd ∷ Addi ∷ Slti ∷ Sltiu ∷ Xori ∷ Ori ∷ Andi ∷
    Slli ∷ Srli ∷ Srai ∷ Add ∷ Sub ∷ Sll ∷ Slt ∷ Sltu ∷ Xor ∷
    Srl ∷ Sra ∷ Or ∷ And ∷ Addiw ∷ Slliw ∷ Srliw ∷ Sraiw ∷ Addw ∷
    Subw ∷ Sllw ∷ Srlw ∷ Sraw ∷ Mul ∷ Mulh ∷ Mulhsu ∷ Mulhu ∷ Div ∷
    Divu ∷ Rem ∷ Remu ∷ Mulw ∷ Divw ∷ Divuw ∷ Remw ∷ Remuw ∷ Fence ∷
    Ecall ∷ Ebreak ∷ []

-- a format leaves out the numbers for which it has no place; a shift by a number has six bits of its own funct7
abbrev pub has_functions : Format → ℕ → ℕ → ℕ → ℕ → Bool
has_functions Upper own3 own7 funct3 funct7 = true
has_functions Jump own3 own7 funct3 funct7 = true
has_functions Immediate own3 own7 funct3 funct7 = funct3 == own3
has_functions Branch own3 own7 funct3 funct7 = funct3 == own3
has_functions Store own3 own7 funct3 funct7 = funct3 == own3
has_functions Register own3 own7 funct3 funct7 = funct3 == own3 && funct7 == own7
has_functions Shift own3 own7 funct3 funct7 = funct3 == own3 && funct7 / 2 == own7 / 2
has_functions ShiftWord own3 own7 funct3 funct7 = funct3 == own3 && funct7 == own7

-- the word is one of the row
abbrev pub is_of_row : ℕ → Row → Bool
is_of_row word (Word own) = word == own
is_of_row word (Fields format own own3 own7) =
    bits_at 6 0 word == own && has_functions format own3 own7 (bits_at 14 12 word) (bits_at 31 25 word)

-- the operation of whose words this is one
abbrev pub operation_of : ℕ → Option Op
operation_of word = find (λ op. is_of_row word (row_of op)) ops

-- The rows: their numbers are in range, and each is the first of its words.
use Rattle.std.proofs.Common.{◌≡◌, ℕ, ◌/◌, Bool, true, sym, refl, subst}
use Rattle.std.specs.Prelude.{◌==◌, ◌&&◌, Option, Some, find}
use Rattle.std.proofs.lemmas.Bool.{and_parts, eqb-true}
use Rattle.cell_num.specs.Bits.{bits_at}
use Rattle.cell_isa.specs.declared.insn.Op.{Op}
use Rattle.cell_isa.specs.declared.insn.Op.TheVariants.{Lui, Auipc, Jal, Jalr, Beq, Bne, Blt, Bge, Bltu, Bgeu, Lb, Lh, Lw, Ld, Lbu, Lhu, Lwu, Sb, Sh, Sw, Sd, Addi, Slti, Sltiu, Xori, Ori, Andi, Slli, Srli, Srai, Add, Sub, Sll, Slt, Sltu, Xor, Srl, Sra, Or, And, Addiw, Slliw, Srliw, Sraiw, Addw, Subw}
use Rattle.cell_isa.specs.declared.insn.Op.TheVariants.{Sllw, Srlw, Sraw, Mul, Mulh, Mulhsu, Mulhu, Div, Divu, Rem, Remu, Mulw, Divw, Divuw, Remw, Remuw, Fence, Ecall, Ebreak}
use Rattle.cell_isa.specs.declared.format.Format.{Format}
use Rattle.cell_isa.specs.declared.format.Format.TheVariants.{Upper, Jump, Immediate, Branch, Store, Register, Shift, ShiftWord}
use Rattle.cell_isa.specs.declared.table.Row.{Row}
use Rattle.cell_isa.specs.declared.table.Row.TheVariants.{Word, Fields}
use Rattle.cell_isa.specs.Sound.{is_sound}
use Rattle.cell_isa.specs.Table.{row_of, ops, is_of_row, operation_of}

pub sound : (op : Op) → is_sound (row_of op) ≡ true
sound Lui = refl
sound _ = refl

-- the tests of a row, at the numbers of a word: opcode, funct3, funct7 and its half
abbrev have_functions : Format → ℕ → ℕ → ℕ → ℕ → ℕ → Bool
have_functions Upper own3 own7 n3 n7 half = true
have_functions Jump own3 own7 n3 n7 half = true
have_functions Immediate own3 own7 n3 n7 half = n3 == own3
have_functions Branch own3 own7 n3 n7 half = n3 == own3
have_functions Store own3 own7 n3 n7 half = n3 == own3
have_functions Register own3 own7 n3 n7 half = n3 == own3 && n7 == own7
have_functions Shift own3 own7 n3 n7 half = n3 == own3 && half == own7 / 2
have_functions ShiftWord own3 own7 n3 n7 half = n3 == own3 && n7 == own7

abbrev is_at : ℕ → ℕ → ℕ → ℕ → ℕ → Row → Bool
is_at w o n3 n7 half (Word own) = w == own
is_at w o n3 n7 half (Fields format own own3 own7) = o == own && have_functions format own3 own7 n3 n7 half

abbrev first_at : ℕ → ℕ → ℕ → ℕ → ℕ → Option Op
first_at w o n3 n7 half = find (λ op. is_at w o n3 n7 half (row_of op)) ops

abbrev first_of : ℕ → Option Op
first_of w = first_at w (bits_at 6 0 w) (bits_at 14 12 w) (bits_at 31 25 w) (bits_at 31 25 w / 2)

by_opcode : (op : Op) (w o : ℕ) → (bits_at 6 0 w == o && true) ≡ true
    → first_at w o (bits_at 14 12 w) (bits_at 31 25 w) (bits_at 31 25 w / 2) ≡ Some op → first_of w ≡ Some op
by_opcode op w o h f =
    let a = eqb-true (bits_at 6 0 w) o (and_parts _ _ h).0 in
    subst (λ x. first_at w x (bits_at 14 12 w) (bits_at 31 25 w) (bits_at 31 25 w / 2) ≡ Some op) (sym a) f

by_funct3 : (op : Op) (w o n3 : ℕ) → (bits_at 6 0 w == o && bits_at 14 12 w == n3) ≡ true
    → first_at w o n3 (bits_at 31 25 w) (bits_at 31 25 w / 2) ≡ Some op → first_of w ≡ Some op
by_funct3 op w o n3 h f =
    let p = and_parts _ _ h in
    let a = eqb-true (bits_at 6 0 w) o p.0 in
    let b = eqb-true (bits_at 14 12 w) n3 p.1 in
    subst (λ x. first_at w x (bits_at 14 12 w) (bits_at 31 25 w) (bits_at 31 25 w / 2) ≡ Some op) (sym a)
    (subst (λ x. first_at w o x (bits_at 31 25 w) (bits_at 31 25 w / 2) ≡ Some op) (sym b) f)

by_funct7 : (op : Op) (w o n3 n7 : ℕ) → (bits_at 6 0 w == o && (bits_at 14 12 w == n3 && bits_at 31 25 w == n7)) ≡ true
    → first_at w o n3 n7 (bits_at 31 25 w / 2) ≡ Some op → first_of w ≡ Some op
by_funct7 op w o n3 n7 h f =
    let p = and_parts _ _ h in
    let q = and_parts _ _ p.1 in
    let a = eqb-true (bits_at 6 0 w) o p.0 in
    let b = eqb-true (bits_at 14 12 w) n3 q.0 in
    let c = eqb-true (bits_at 31 25 w) n7 q.1 in
    subst (λ x. first_at w x (bits_at 14 12 w) (bits_at 31 25 w) (bits_at 31 25 w / 2) ≡ Some op) (sym a)
    (subst (λ x. first_at w o x (bits_at 31 25 w) (bits_at 31 25 w / 2) ≡ Some op) (sym b)
    (subst (λ x. first_at w o n3 x (bits_at 31 25 w / 2) ≡ Some op) (sym c) f))

by_half : (op : Op) (w o n3 half : ℕ) → (bits_at 6 0 w == o && (bits_at 14 12 w == n3 && bits_at 31 25 w / 2 == half)) ≡ true
    → first_at w o n3 (bits_at 31 25 w) half ≡ Some op → first_of w ≡ Some op
by_half op w o n3 half h f =
    let p = and_parts _ _ h in
    let q = and_parts _ _ p.1 in
    let a = eqb-true (bits_at 6 0 w) o p.0 in
    let b = eqb-true (bits_at 14 12 w) n3 q.0 in
    let c = eqb-true (bits_at 31 25 w / 2) half q.1 in
    subst (λ x. first_at w x (bits_at 14 12 w) (bits_at 31 25 w) (bits_at 31 25 w / 2) ≡ Some op) (sym a)
    (subst (λ x. first_at w o x (bits_at 31 25 w) (bits_at 31 25 w / 2) ≡ Some op) (sym b)
    (subst (λ x. first_at w o n3 (bits_at 31 25 w) x ≡ Some op) (sym c) f))

by_word : (op : Op) (w own : ℕ) → (w == own) ≡ true → first_of own ≡ Some op → first_of w ≡ Some op
by_word op w own h f = subst (λ x. first_of x ≡ Some op) (sym (eqb-true w own h)) f

-- a word of an operation's row is no other's
pub first : (op : Op) (w : ℕ) → is_of_row w (row_of op) ≡ true → operation_of w ≡ Some op
first Lui w h = by_opcode Lui w 0x37 h refl
first Auipc w h = by_opcode Auipc w 0x17 h refl
first Jal w h = by_opcode Jal w 0x6f h refl
first Jalr w h = by_funct3 Jalr w 0x67 0 h refl
first Beq w h = by_funct3 Beq w 0x63 0 h refl
first Bne w h = by_funct3 Bne w 0x63 1 h refl
first Blt w h = by_funct3 Blt w 0x63 4 h refl
first Bge w h = by_funct3 Bge w 0x63 5 h refl
first Bltu w h = by_funct3 Bltu w 0x63 6 h refl
first Bgeu w h = by_funct3 Bgeu w 0x63 7 h refl
first Lb w h = by_funct3 Lb w 0x03 0 h refl
first Lh w h = by_funct3 Lh w 0x03 1 h refl
first Lw w h = by_funct3 Lw w 0x03 2 h refl
first Ld w h = by_funct3 Ld w 0x03 3 h refl
first Lbu w h = by_funct3 Lbu w 0x03 4 h refl
first Lhu w h = by_funct3 Lhu w 0x03 5 h refl
first Lwu w h = by_funct3 Lwu w 0x03 6 h refl
first Sb w h = by_funct3 Sb w 0x23 0 h refl
first Sh w h = by_funct3 Sh w 0x23 1 h refl
first Sw w h = by_funct3 Sw w 0x23 2 h refl
first Sd w h = by_funct3 Sd w 0x23 3 h refl
first Addi w h = by_funct3 Addi w 0x13 0 h refl
first Slti w h = by_funct3 Slti w 0x13 2 h refl
first Sltiu w h = by_funct3 Sltiu w 0x13 3 h refl
first Xori w h = by_funct3 Xori w 0x13 4 h refl
first Ori w h = by_funct3 Ori w 0x13 6 h refl
first Andi w h = by_funct3 Andi w 0x13 7 h refl
first Slli w h = by_half Slli w 0x13 1 0 h refl
first Srli w h = by_half Srli w 0x13 5 0 h refl
first Srai w h = by_half Srai w 0x13 5 16 h refl
first Add w h = by_funct7 Add w 0x33 0 0 h refl
first Sub w h = by_funct7 Sub w 0x33 0 32 h refl
first Sll w h = by_funct7 Sll w 0x33 1 0 h refl
first Slt w h = by_funct7 Slt w 0x33 2 0 h refl
first Sltu w h = by_funct7 Sltu w 0x33 3 0 h refl
first Xor w h = by_funct7 Xor w 0x33 4 0 h refl
first Srl w h = by_funct7 Srl w 0x33 5 0 h refl
first Sra w h = by_funct7 Sra w 0x33 5 32 h refl
first Or w h = by_funct7 Or w 0x33 6 0 h refl
first And w h = by_funct7 And w 0x33 7 0 h refl
first Addiw w h = by_funct3 Addiw w 0x1b 0 h refl
first Slliw w h = by_funct7 Slliw w 0x1b 1 0 h refl
first Srliw w h = by_funct7 Srliw w 0x1b 5 0 h refl
first Sraiw w h = by_funct7 Sraiw w 0x1b 5 32 h refl
first Addw w h = by_funct7 Addw w 0x3b 0 0 h refl
first Subw w h = by_funct7 Subw w 0x3b 0 32 h refl
first Sllw w h = by_funct7 Sllw w 0x3b 1 0 h refl
first Srlw w h = by_funct7 Srlw w 0x3b 5 0 h refl
first Sraw w h = by_funct7 Sraw w 0x3b 5 32 h refl
first Mul w h = by_funct7 Mul w 0x33 0 1 h refl
first Mulh w h = by_funct7 Mulh w 0x33 1 1 h refl
first Mulhsu w h = by_funct7 Mulhsu w 0x33 2 1 h refl
first Mulhu w h = by_funct7 Mulhu w 0x33 3 1 h refl
first Div w h = by_funct7 Div w 0x33 4 1 h refl
first Divu w h = by_funct7 Divu w 0x33 5 1 h refl
first Rem w h = by_funct7 Rem w 0x33 6 1 h refl
first Remu w h = by_funct7 Remu w 0x33 7 1 h refl
first Mulw w h = by_funct7 Mulw w 0x3b 0 1 h refl
first Divw w h = by_funct7 Divw w 0x3b 4 1 h refl
first Divuw w h = by_funct7 Divuw w 0x3b 5 1 h refl
first Remw w h = by_funct7 Remw w 0x3b 6 1 h refl
first Remuw w h = by_funct7 Remuw w 0x3b 7 1 h refl
first Fence w h = by_funct3 Fence w 0x0f 0 h refl
first Ecall w h = by_word Ecall w 0x00000073 h refl
first Ebreak w h = by_word Ebreak w 0x00100073 h refl

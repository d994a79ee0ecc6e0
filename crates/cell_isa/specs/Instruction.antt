-- The instruction that a word is, and the word of an instruction, both by the table.
--     decode word         the instruction, where the word is one of a row
--     encode insn         the word, where each of the instruction's fields has room
-- RISC-V unprivileged manual, "Base Instruction Formats" and "Immediate Encoding Variants".
use Rattle.std.specs.Prelude.{ℕ, ◌+◌, ◌-◌, ◌*◌, ◌^◌, ◌==◌, nat_lt, Bool, true, false, ◌&&◌, Option, Some, None, ℤ, pos, negsuc, ◌-ℤ◌, int_le, option_map, if◌then◌else◌}
use Rattle.cell_isa.specs.declared.insn.Insn.{Insn}
use Rattle.cell_isa.specs.declared.insn.Op.{Op}
use Rattle.cell_isa.specs.declared.format.Format.{Format}
use Rattle.cell_isa.specs.declared.format.Format.TheVariants.{Upper, Jump, Immediate, Branch, Store, Register, Shift, ShiftWord}
use Rattle.cell_isa.specs.declared.table.Row.{Row}
use Rattle.cell_isa.specs.declared.table.Row.TheVariants.{Word, Fields}
use Rattle.cell_isa.specs.Table.{row_of, operation_of}
use Rattle.cell_num.specs.Bits.{bits_at, modulo_2}

-- the low k bits as a signed number
abbrev pub signed_bits : ℕ → ℕ → ℤ
signed_bits k n = if nat_lt n (2 ^ (k - 1)) then pos n else pos n -ℤ pos (2 ^ k)

-- the immediate that stands in a word
abbrev pub immediate : Format → ℕ → ℤ
immediate Upper word = pos (bits_at 31 12 word)
immediate Jump word =
    signed_bits 21 (bits_at 31 31 word * 2 ^ 20 + bits_at 19 12 word * 2 ^ 12 + bits_at 20 20 word * 2 ^ 11 + bits_at 30 21 word * 2)
immediate Immediate word = signed_bits 12 (bits_at 31 20 word)
immediate Branch word =
    signed_bits 13 (bits_at 31 31 word * 2 ^ 12 + bits_at 7 7 word * 2 ^ 11 + bits_at 30 25 word * 2 ^ 5 + bits_at 11 8 word * 2)
immediate Store word = signed_bits 12 (bits_at 31 25 word * 32 + bits_at 11 7 word)
immediate Register word = pos 0
immediate Shift word = pos (bits_at 25 20 word)
immediate ShiftWord word = pos (bits_at 24 20 word)

-- the registers for which a format has a place
abbrev pub has_rd : Format → Bool
has_rd Branch = false
has_rd Store = false
has_rd _ = true

abbrev pub has_rs1 : Format → Bool
has_rs1 Upper = false
has_rs1 Jump = false
has_rs1 _ = true

abbrev pub has_rs2 : Format → Bool
has_rs2 Branch = true
has_rs2 Store = true
has_rs2 Register = true
has_rs2 _ = false

-- an instruction that uses no field: each is 0
abbrev pub alone : Op → Insn
alone op = record { op = op; rd = 0; rs1 = 0; rs2 = 0; imm = pos 0 }

-- the fields of a format that stand in a word; one without a place is 0
abbrev pub fields_at : Op → Format → ℕ → Insn
fields_at op format word =
    record {
      op = op;
      rd = if has_rd format then bits_at 11 7 word else 0;
      rs1 = if has_rs1 format then bits_at 19 15 word else 0;
      rs2 = if has_rs2 format then bits_at 24 20 word else 0;
      imm = immediate format word;
    }

-- the instruction of an operation that stands in a word of its row
abbrev pub instruction : ℕ → Op → Row → Insn
instruction word op (Word own) = alone op
instruction word op (Fields format own own3 own7) = fields_at op format word

-- the instruction that a word is
unfoldable pub decode : ℕ → Option Insn
decode word = option_map (λ op. instruction word op (row_of op)) (operation_of word)

-- a register where the format has a place, and else 0
abbrev pub is_register : Bool → ℕ → Bool
is_register true n = nat_lt n 32
is_register false n = n == 0

-- low ≤ z ≤ high
abbrev pub is_within : ℤ → ℤ → ℤ → Bool
is_within low high z = int_le low z && int_le z high

abbrev pub is_even : ℤ → Bool
is_even z = modulo_2 1 z == 0

-- the format has room for the immediate: I and S from -2^11 to 2^11 - 1, B from -2^12 to 2^12 - 2 and J from -2^20 to
-- 2^20 - 2, both even
abbrev pub does_fit : Format → ℤ → Bool
does_fit Upper z = is_within (pos 0) (pos 0xfffff) z
does_fit Jump z = is_even z && is_within (negsuc 0xfffff) (pos 0xffffe) z
does_fit Immediate z = is_within (negsuc 0x7ff) (pos 0x7ff) z
does_fit Branch z = is_even z && is_within (negsuc 0xfff) (pos 0xffe) z
does_fit Store z = is_within (negsuc 0x7ff) (pos 0x7ff) z
does_fit Register z = is_within (pos 0) (pos 0) z
does_fit Shift z = is_within (pos 0) (pos 63) z
does_fit ShiftWord z = is_within (pos 0) (pos 31) z

-- the format has room for each field
abbrev pub have_room : Insn → Format → Bool
have_room insn format =
    is_register (has_rd format) insn.rd && is_register (has_rs1 format) insn.rs1 && is_register (has_rs2 format) insn.rs2 && does_fit format insn.imm

-- each field is 0
abbrev pub are_unused : Insn → Bool
are_unused insn = insn.rd == 0 && insn.rs1 == 0 && insn.rs2 == 0 && is_within (pos 0) (pos 0) insn.imm

-- where the bits of an immediate lie in the word. n: the immediate modulo 2^32
abbrev pub immediate_bits : Format → ℕ → ℕ
immediate_bits Upper n = bits_at 19 0 n * 2 ^ 12
immediate_bits Jump n = bits_at 20 20 n * 2 ^ 31 + bits_at 10 1 n * 2 ^ 21 + bits_at 11 11 n * 2 ^ 20 + bits_at 19 12 n * 2 ^ 12
immediate_bits Immediate n = bits_at 11 0 n * 2 ^ 20
immediate_bits Branch n = bits_at 12 12 n * 2 ^ 31 + bits_at 10 5 n * 2 ^ 25 + bits_at 4 1 n * 2 ^ 8 + bits_at 11 11 n * 2 ^ 7
immediate_bits Store n = bits_at 11 5 n * 2 ^ 25 + bits_at 4 0 n * 2 ^ 7
immediate_bits Register n = 0
immediate_bits Shift n = bits_at 5 0 n * 2 ^ 20
immediate_bits ShiftWord n = bits_at 4 0 n * 2 ^ 20

-- the numbers of the row, the registers and the immediate, each in its place
abbrev pub word_with : Insn → Format → ℕ → ℕ → ℕ → ℕ
word_with insn format opcode funct3 funct7 =
    opcode + funct3 * 2 ^ 12 + funct7 * 2 ^ 25 + insn.rd * 2 ^ 7 + insn.rs1 * 2 ^ 15 + insn.rs2 * 2 ^ 20 + immediate_bits format (modulo_2 32 insn.imm)

-- the word of a row with these fields, where each has room
abbrev pub word_by_row : Insn → Row → Option ℕ
word_by_row insn (Word own) = if are_unused insn then Some own else None
word_by_row insn (Fields format opcode funct3 funct7) =
    if have_room insn format then Some (word_with insn format opcode funct3 funct7) else None

-- the word of an instruction
abbrev pub encode : Insn → Option ℕ
encode insn = word_by_row insn (row_of insn.op)

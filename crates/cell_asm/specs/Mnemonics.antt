-- The words that a statement begins with.
--     directive text        the directive of that word
--     mnemonic text         the instruction of that word, or what is short for instructions
use Rattle.std.specs.Prelude.{◌∷◌, ◌++◌}
use Rattle.cell_asm.specs.Types.{ℕ, true, false, List, [], map, codes, Option, Some, None, option_map, find, bytes_eq, pos, Op, Text, Rodata, Data, Bss, Low, LowStore, FormUpper as Upper, FormUpperPcrel as UpperPcrel, FormShift as Shift, FormShiftWord as ShiftWord, Small, FormBranch as Branch}
use Rattle.cell_asm.specs.Types.{FormJump as Jump, FormCall as Call, Address, Slot, Rd, Rs1, Rs2, SlotValue as Value, SlotMemory as Memory, Fixed, Byte, Half, WidthWord as Word, Quad, Mnemonic, Directive, DirectiveChoose as Choose, DirectiveBind as Bind, BindingGlobal as Global, BindingWeak as Weak}
use Rattle.cell_asm.specs.Types.{Numbers, DirectiveZeros as Zeros, DirectiveAlign as Align}
use Rattle.cell_isa.specs.declared.insn.Op.TheVariants.{Lui, Auipc, Jal, Jalr, Beq, Bne, Blt, Bge, Bltu, Bgeu, Lb, Lh, Lw, Ld, Lbu, Lhu, Lwu, Sb, Sh, Sw, Sd, Addi, Slti, Sltiu, Xori, Ori, Andi, Slli, Srli, Srai, Add, Sub, Sll, Slt, Sltu, Xor, Srl, Sra, Or, And, Addiw, Slliw, Srliw, Sraiw, Addw, Subw}
use Rattle.cell_isa.specs.declared.insn.Op.TheVariants.{Sllw, Srlw, Sraw, Mul, Mulh, Mulhsu, Mulhu, Div, Divu, Rem, Remu, Mulw, Divw, Divuw, Remw, Remuw, Fence, Ecall, Ebreak}

-- the row of a table with that word
abbrev pub row_of : {A : Type 0} → List (List ℕ × A) → List ℕ → Option A
row_of rows text = option_map (λ row. row.1) (find (λ row. bytes_eq text row.0) rows)

abbrev pub directives : List (List ℕ × Directive)
directives =
    (codes ".text", Choose Text) ∷ (codes ".rodata", Choose Rodata) ∷ (codes ".data", Choose Data) ∷ (codes ".bss", Choose Bss)
    ∷ (codes ".globl", Bind Global)
    ∷ (codes ".weak", Bind Weak)
    ∷ (codes ".byte", Numbers Byte) ∷ (codes ".half", Numbers Half) ∷ (codes ".word", Numbers Word) ∷ (codes ".quad", Numbers Quad)
    ∷ (codes ".zero", Zeros) ∷ (codes ".align", Align) ∷ []

abbrev pub directive : List ℕ → Option Directive
directive text = row_of directives text

-- an instruction: its operation, what its operands fill in their order, and what none says
abbrev pub Row : Type 0
Row = Op × List Slot × Fixed

-- the row as the code has it
abbrev pub said : Mnemonic → Row
said m = (m.0, m.1.now, m.2)

-- zeros in the fields that no operand fills, and no second instruction
abbrev pub free : Fixed
free = record { rd = 0; rs1 = 0; number = pos 0; then = None }

-- instructions whose operands fill these slots, and of which nothing else is said
abbrev pub rows : List Slot → List (List ℕ × Op) → List (List ℕ × Row)
rows slots words = map (λ word. (word.0, (word.1, slots, free))) words

-- those that fix a field, or stand for two instructions; ra is register 1
abbrev pub special : List (List ℕ × Row)
special =
    (codes "ret", (Jalr, [], record free { rs1 = 1 })) ∷ (codes "fence", (Fence, [], record free { number = pos 255 }))
    ∷ (codes "call", (Auipc, Value Call ∷ [], record free { rd = 1; then = Some (record { op = Jalr; made = false }) }))
    ∷ (codes "la", (Auipc, Rd ∷ Value Address ∷ [], record free { then = Some (record { op = Addi; made = true }) })) ∷ []

abbrev pub mnemonics : List (List ℕ × Row)
mnemonics =
    special
    ++ rows [] ((codes "nop", Addi) ∷ (codes "ecall", Ecall) ∷ (codes "ebreak", Ebreak) ∷ [])
    ++ rows (Rd ∷ Rs1 ∷ []) ((codes "mv", Addi) ∷ [])
    ++ rows (Rd ∷ Value Small ∷ []) ((codes "li", Addi) ∷ [])
    ++ rows (Value Jump ∷ []) ((codes "j", Jal) ∷ [])
    ++ rows (Rd ∷ Value Jump ∷ []) ((codes "jal", Jal) ∷ [])
    ++ rows (Rd ∷ Value Upper ∷ []) ((codes "lui", Lui) ∷ [])
    ++ rows (Rd ∷ Value UpperPcrel ∷ []) ((codes "auipc", Auipc) ∷ [])
    ++ rows (Rs1 ∷ Rs2 ∷ Value Branch ∷ []) ((codes "beq", Beq) ∷ (codes "bne", Bne) ∷ (codes "blt", Blt) ∷ (codes "bge", Bge) ∷ (codes "bltu", Bltu) ∷ (codes "bgeu", Bgeu) ∷ [])
    ++ rows (Rd ∷ Memory Low ∷ [])
    ((codes "jalr", Jalr) ∷ (codes "lb", Lb) ∷ (codes "lh", Lh) ∷ (codes "lw", Lw) ∷ (codes "ld", Ld) ∷ (codes "lbu", Lbu) ∷ (codes "lhu", Lhu)
    ∷ (codes "lwu", Lwu) ∷ [])
    ++ rows (Rs2 ∷ Memory LowStore ∷ []) ((codes "sb", Sb) ∷ (codes "sh", Sh) ∷ (codes "sw", Sw) ∷ (codes "sd", Sd) ∷ [])
    ++ rows (Rd ∷ Rs1 ∷ Value Low ∷ []) ((codes "addi", Addi) ∷ (codes "slti", Slti) ∷ (codes "sltiu", Sltiu) ∷ (codes "xori", Xori) ∷ (codes "ori", Ori) ∷ (codes "andi", Andi) ∷ (codes "addiw", Addiw) ∷ [])
    ++ rows (Rd ∷ Rs1 ∷ Value Shift ∷ []) ((codes "slli", Slli) ∷ (codes "srli", Srli) ∷ (codes "srai", Srai) ∷ [])
    ++ rows (Rd ∷ Rs1 ∷ Value ShiftWord ∷ []) ((codes "slliw", Slliw) ∷ (codes "srliw", Srliw) ∷ (codes "sraiw", Sraiw) ∷ [])
    ++ rows (Rd ∷ Rs1 ∷ Rs2 ∷ [])
    ((codes "add", Add) ∷ (codes "sub", Sub) ∷ (codes "sll", Sll) ∷ (codes "slt", Slt) ∷ (codes "sltu", Sltu) ∷ (codes "xor", Xor) ∷ (codes "srl", Srl)
    ∷ (codes "sra", Sra) ∷ (codes "or", Or) ∷ (codes "and", And) ∷ (codes "addw", Addw) ∷ (codes "subw", Subw) ∷ (codes "sllw", Sllw) ∷ (codes "srlw", Srlw)
    ∷ (codes "sraw", Sraw) ∷ (codes "mul", Mul) ∷ (codes "mulh", Mulh) ∷ (codes "mulhsu", Mulhsu) ∷ (codes "mulhu", Mulhu) ∷ (codes "div", Div) ∷ (codes "divu", Divu)
    ∷ (codes "rem", Rem) ∷ (codes "remu", Remu) ∷ (codes "mulw", Mulw) ∷ (codes "divw", Divw) ∷ (codes "divuw", Divuw) ∷ (codes "remw", Remw) ∷ (codes "remuw", Remuw) ∷ [])

abbrev pub mnemonic : List ℕ → Option Row
mnemonic text = row_of mnemonics text

-- The bytes of an instruction from its operands, and the entries for them.
--     instruction row operands      its block, or the earliest fault of the operands
-- An operand that lacks, or one too many, is a fault of the kind Operand; each operand that has a slot is read.
use Rattle.cell_asm.specs.Types.{ℕ, Bool, List, [], Option, Some, None, ℤ, pos, Result, Ok, Err, Op, PcrelLo12I, AsmKind, Then, Fixed, Operand, Slot, Rd, Rs1, Rs2, SlotValue as Value, SlotMemory as Memory, Fields, TargetMade as Made, Block, Piece, Fix}
use Rattle.std.specs.Prelude.{unwrap_or, ◌∷◌}
use Rattle.std.specs.Bool.{then_some}
use Rattle.cell_isa.specs.Instruction.{encode}
use Rattle.cell_asm.specs.declared.kind.AsmKind.TheVariants as faults
use Rattle.cell_asm.specs.Blocks.{appended, empty}
use Rattle.cell_asm.specs.Faults.{earlier, joined, with_value}
use Rattle.cell_asm.specs.Mnemonics.{Row}
use Rattle.cell_asm.specs.Wanted.{register, value, memory, plain}

-- THE FIELDS: what a row fixes, and what operands put

abbrev pub unfilled : Fixed → Fields
unfilled fixed = record { rd = fixed.rd; rs1 = fixed.rs1; rs2 = 0; field = plain fixed.number }

-- with what an operand puts in its slot
abbrev pub put : Result Fields AsmKind → Slot → Operand → Result Fields AsmKind
put fields Rd o = joined (λ f r. record f { rd = r }) fields (register o)
put fields Rs1 o = joined (λ f r. record f { rs1 = r }) fields (register o)
put fields Rs2 o = joined (λ f r. record f { rs2 = r }) fields (register o)
put fields (Value form) o = joined (λ f x. record f { field = x }) fields (value form o)
put fields (Memory form) o = joined (λ f m. record f { rs1 = m.1; field = m.0 }) fields (memory form o)

abbrev pub miscounted : Result Fields AsmKind → Result Fields AsmKind
miscounted (Ok f) = Err faults.Operand
miscounted (Err k) = Err (earlier k faults.Operand)

abbrev pub filled : Result Fields AsmKind → List Slot → List Operand → Result Fields AsmKind
filled fields [] [] = fields
filled fields (slot ∷ slots) (o ∷ operands) = filled (put fields slot o) slots operands
filled fields _ _ = miscounted fields

-- THE BYTES

-- the word of an instruction; each that is written here has one
unfoldable pub word : Op → ℕ → ℕ → ℕ → ℤ → ℕ
word op rd rs1 rs2 imm = unwrap_or (encode (record { op = op; rd = rd; rs1 = rs1; rs2 = rs2; imm = imm })) 0

abbrev pub single : Op → Fields → Piece
single op f = record { width = 4; value = word op f.rd f.rs1 f.rs2 f.field.number; fix = f.field.fix; second = None }

-- the entry of a second instruction for the label that is made at the first
abbrev pub made_fix : Bool → Option Fix
made_fix made = then_some made (record { kind = PcrelLo12I; target = Made; addend = pos 0 })

-- the fields of a second instruction, behind one with that rd
abbrev pub behind : ℕ → Bool → Fields
behind rd made = record { rd = rd; rs1 = rd; rs2 = 0; field = record { number = pos 0; fix = made_fix made } }

abbrev pub block : Op → Option Then → Fields → Block
block op None f = appended empty (single op f)
block op (Some t) f = appended (appended empty (single op f)) (single t.op (behind f.rd t.made))

abbrev pub instruction : Row → List Operand → Result Block AsmKind
instruction row operands = with_value (block row.0 row.2.then) (filled (Ok (unfilled row.2)) row.1 operands)

-- What a statement says, from its word and its operands.
--     statement word operands      the statement, or the earliest fault
use Rattle.std.specs.Prelude.{◌^◌, ◌*◌, ◌-◌, ◌∷◌, if◌then◌else◌}
use Rattle.cell_asm.specs.Types.{ℕ, nat_le, List, [], map, Option, Some, None, ℤ, pos, negsuc, Result, Ok, Err, modulo_2, RelKind, AsmKind, Width, Byte, Half, WidthWord as Word, Quad, Directive, Difference, Whole, Number, ImmediatePart as Part, Operand, OperandValue as Value, Content, Code, Narrow}
use Rattle.cell_asm.specs.Types.{Wide, Block, Piece, Fix, Statement, StatementChoose as Choose, StatementBind as Bind, StatementZeros as Zeros, StatementAlign as Align, Bytes, Layout}
use Rattle.cell_num.specs.declared.kinds.RelKind.TheVariants as kinds
use Rattle.cell_asm.specs.declared.kind.AsmKind.TheVariants as faults
use Rattle.cell_asm.specs.declared.mnemonic.Directive.TheVariants as directives
use Rattle.cell_asm.specs.Blocks.{appended, empty}
use Rattle.cell_asm.specs.Faults.{with_value, gathered}
use Rattle.cell_asm.specs.Mnemonics.{Row, directive, mnemonic}
use Rattle.cell_asm.specs.Wanted.{name, within, entry, fix}
use Rattle.cell_asm.specs.Instructions.{instruction}

-- how many bytes a number has, and the kinds of its entries: an address, which one or two bytes don't hold, and the two of a difference
abbrev pub layout : ℕ → Content → Option RelKind → RelKind → RelKind → Layout
layout bytes content address add sub = record { bytes = bytes; content = content; address = address; add = add; sub = sub }

abbrev pub layout_of : Width → Layout
layout_of Byte = layout 1 Narrow None kinds.Add8 kinds.Sub8
layout_of Half = layout 2 Narrow None kinds.Add16 kinds.Sub16
layout_of Word = layout 4 Wide (Some kinds.Abs32) kinds.Add32 kinds.Sub32
layout_of Quad = layout 8 Wide (Some kinds.Abs64) kinds.Add64 kinds.Sub64

-- a number that fits as a signed or as an unsigned one
abbrev pub stored : Width → ℤ → Result ℕ AsmKind
stored w n =
    let bits = 8 * (layout_of w).bytes in
    with_value (modulo_2 bits) (within (negsuc (2 ^ (bits - 1) - 1)) (pos (2 ^ bits - 1)) n)

abbrev pub filled : Width → ℕ → Option Fix → Option Fix → Piece
filled w value first second = record { width = (layout_of w).bytes; value = value; fix = first; second = second }

-- one of a list of numbers: a number, an address, or the difference of two
abbrev pub datum : Width → Operand → Result Piece AsmKind
datum w (Value (Number n)) = with_value (λ value. filled w value None None) (stored w n)
datum w (Value (Part Whole (Difference m n))) = Ok (filled w 0 (Some (fix (layout_of w).add m (pos 0))) (Some (fix (layout_of w).sub n (pos 0))))
datum w (Value (Part Whole e)) = with_value (λ f. filled w 0 (Some f) None) (entry (layout_of w).address e)
datum w _ = Err faults.Operand

-- one number or more
abbrev pub numbers : Width → List Operand → Result Block AsmKind
numbers w [] = Err faults.Operand
numbers w (o ∷ operands) = gathered appended empty (map (datum w) (o ∷ operands))

abbrev pub count : Operand → Result ℕ AsmKind
count (Value (Number (pos n))) = Ok n
count (Value (Number (negsuc n))) = Err faults.Range
count _ = Err faults.Operand

-- the multiple of an alignment, of which the power of two is given
abbrev pub unit_of : Result ℕ AsmKind → Result ℕ AsmKind
unit_of (Ok k) = if nat_le k 12 then Ok (2 ^ k) else Err faults.Range
unit_of (Err kind) = Err kind

abbrev pub unit : Operand → Result ℕ AsmKind
unit o = unit_of (count o)

-- no operand, or one; another count is a fault of the kind Operand, and so no fault of what is read here comes before it
abbrev pub none : Statement → List Operand → Result Statement AsmKind
none made [] = Ok made
none made _ = Err faults.Operand

abbrev pub one : {A : Type 0} → (Operand → Result A AsmKind) → (A → Statement) → List Operand → Result Statement AsmKind
one read make (o ∷ []) = with_value make (read o)
one read make _ = Err faults.Operand

abbrev pub directed : Directive → List Operand → Result Statement AsmKind
directed (directives.Choose part) operands = none (Choose part) operands
directed (directives.Bind binding) operands = one name (λ n. Bind binding n) operands
directed (directives.Numbers w) operands = with_value (λ b. Bytes (layout_of w).content b) (numbers w operands)
directed directives.Zeros operands = one count (λ n. Zeros n) operands
directed directives.Align operands = one unit (λ n. Align n) operands

abbrev pub worded : Option Directive → Option Row → List Operand → Result Statement AsmKind
worded (Some d) row operands = directed d operands
worded None (Some row) operands = with_value (λ b. Bytes Code b) (instruction row operands)
worded None None operands = Err faults.Word

abbrev pub statement : List ℕ → List Operand → Result Statement AsmKind
statement text operands = worded (directive text) (mnemonic text) operands

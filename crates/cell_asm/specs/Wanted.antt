-- What is wanted of one operand.
--     register o, name o         a register, a name
--     value form o               what stands for an immediate: a number that fits, or an entry over 0
--     memory form o              I(rs1)
use Rattle.std.specs.Prelude.{◌&&◌, if◌then◌else◌}
use Rattle.cell_asm.specs.Types.{ℕ, Bool, true, false, List, Option, Some, None, ok_or, ℤ, pos, negsuc, int_le, Result, Ok, Err, RelKind, Hi20, Lo12I, Lo12S, PcrelHi20, PcrelLo12I, PcrelLo12S, CallPlt, AsmKind, Expression, ExpressionName as Name, Sum, Difference, Modifier, Whole, Hi, Lo, PcrelHi}
use Rattle.cell_asm.specs.Types.{PcrelLo, GotPcrelHi, Immediate, Number, ImmediatePart as Part, Operand, OperandValue as Value, OperandMemory as Memory, Form, Low, LowStore, FormUpper as Upper, FormUpperPcrel as UpperPcrel, FormShift as Shift, FormShiftWord as ShiftWord, Small, FormBranch as Branch}
use Rattle.cell_asm.specs.Types.{FormJump as Jump, FormCall as Call, Address, TargetNamed as Named, Fix, Field}
use Rattle.cell_num.specs.declared.kinds.RelKind.TheVariants as kinds
use Rattle.cell_asm.specs.declared.kind.AsmKind.TheVariants as faults
use Rattle.cell_asm.specs.Faults.{with_value}
use Rattle.cell_asm.specs.Names as names

-- a register; a name that is none is a wrong word
abbrev pub register : Operand → Result ℕ AsmKind
register (Value (Part Whole (Name name))) = ok_or (names.register name) faults.Word
register _ = Err faults.Operand

abbrev pub name : Operand → Result (List ℕ) AsmKind
name (Value (Part Whole (Name n))) = Ok n
name _ = Err faults.Operand

abbrev pub within : ℤ → ℤ → ℤ → Result ℤ AsmKind
within low high n = if int_le low n && int_le n high then Ok n else Err faults.Range

-- ENTRIES

-- the kinds whose symbol is where a jump or another entry is, or has a slot, to which no number is added
abbrev pub is_bare : RelKind → Bool
is_bare kinds.Branch = true
is_bare kinds.Jal = true
is_bare PcrelLo12I = true
is_bare PcrelLo12S = true
is_bare kinds.GotHi20 = true
is_bare _ = false

abbrev pub fix : RelKind → List ℕ → ℤ → Fix
fix kind n addend = record { kind = kind; target = Named n; addend = addend }

-- an entry of that kind, where there is one; a signed number of 64 bits is added, where the kind takes one
abbrev pub entry : Option RelKind → Expression → Result Fix AsmKind
entry None e = Err faults.Operand
entry (Some kind) (Name n) = Ok (fix kind n (pos 0))
entry (Some kind) (Sum n by) =
    if is_bare kind then Err faults.Operand else with_value (fix kind n) (within (negsuc 0x7fffffffffffffff) (pos 0x7fffffffffffffff) by)
entry (Some kind) (Difference m n) = Err faults.Operand

-- IMMEDIATES: the numbers that fit, and the kinds of the entries for an address and for parts of one

abbrev pub fitting : Form → ℤ → Result ℤ AsmKind
fitting Upper n = within (pos 0) (pos 0xfffff) n
fitting UpperPcrel n = within (pos 0) (pos 0xfffff) n
fitting Shift n = within (pos 0) (pos 63) n
fitting ShiftWord n = within (pos 0) (pos 31) n
fitting Low n = within (negsuc 2047) (pos 2047) n
fitting LowStore n = within (negsuc 2047) (pos 2047) n
fitting Small n = within (negsuc 2047) (pos 2047) n
fitting _ n = Err faults.Operand

abbrev pub kind_of : Form → Modifier → Option RelKind
kind_of Low Lo = Some Lo12I
kind_of Low PcrelLo = Some PcrelLo12I
kind_of LowStore Lo = Some Lo12S
kind_of LowStore PcrelLo = Some PcrelLo12S
kind_of Upper Hi = Some Hi20
kind_of UpperPcrel PcrelHi = Some PcrelHi20
kind_of UpperPcrel GotPcrelHi = Some kinds.GotHi20
kind_of Branch Whole = Some kinds.Branch
kind_of Jump Whole = Some kinds.Jal
kind_of Call Whole = Some CallPlt
kind_of Address Whole = Some PcrelHi20
kind_of form m = None

abbrev pub plain : ℤ → Field
plain n = record { number = n; fix = None }

abbrev pub under : Fix → Field
under f = record { number = pos 0; fix = Some f }

abbrev pub field : Form → Immediate → Result Field AsmKind
field form (Number n) = with_value plain (fitting form n)
field form (Part m e) = with_value under (entry (kind_of form m) e)

abbrev pub value : Form → Operand → Result Field AsmKind
value form (Value i) = field form i
value form _ = Err faults.Operand

abbrev pub memory : Form → Operand → Result (Field × ℕ) AsmKind
memory form (Memory i base) = with_value (λ f. (f, base)) (field form i)
memory form _ = Err faults.Operand

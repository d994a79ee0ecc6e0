-- Sources, computed by the definitions.
use Rattle.std.specs.Prelude.{◌≡◌, ◌∷◌}
use Rattle.cell_asm.proofs.Facts.{refl, ℕ, ℤ, pos, List, [], true, false, length, Result, Ok, Err, codes, join_with_byte, RelKind, Abs64, CallPlt, PcrelHi20, PcrelLo12I, Hi20, Add32, Sub32, Object, Section, Symbol, Entry, Home, Local, BindGlobal as Global, BindWeak as Weak, NoType, Undef, Inside, Prog, Zero, AsmKind, assembled}
use Rattle.cell_asm.specs.declared.kind.AsmKind.TheVariants as faults

abbrev lines : List (List ℕ) → List ℕ
lines texts = join_with_byte 10 texts

abbrev text : ℕ → List ℕ → Section
text number bytes = record { number = number; name = codes ".text"; write = false; exec = true; fill = Prog; align = 4; size = length bytes; bytes = bytes }

abbrev rodata : ℕ → List ℕ → Section
rodata number bytes = record { number = number; name = codes ".rodata"; write = false; exec = false; fill = Prog; align = 8; size = length bytes; bytes = bytes }

abbrev written : ℕ → List ℕ → Section
written number bytes = record { number = number; name = codes ".data"; write = true; exec = false; fill = Prog; align = 8; size = length bytes; bytes = bytes }

abbrev zeros : ℕ → ℕ → Section
zeros number size = record { number = number; name = codes ".bss"; write = true; exec = false; fill = Zero; align = 8; size = size; bytes = [] }

abbrev defined : List ℕ → ℕ → ℕ → Symbol
defined name section value = record { name = name; bind = Global; sort = NoType; home = Inside section; value = value; size = 0 }

abbrev kept : List ℕ → ℕ → ℕ → Symbol
kept name section value = record { name = name; bind = Local; sort = NoType; home = Inside section; value = value; size = 0 }

abbrev undefined : List ℕ → Symbol
undefined name = record { name = name; bind = Global; sort = NoType; home = Undef; value = 0; size = 0 }

abbrev entry : ℕ → ℕ → RelKind → ℕ → ℤ → Entry
entry section offset kind symbol addend = record { section = section; offset = offset; kind = kind; symbol = symbol; addend = addend }

abbrev object : List Section → List Symbol → List Entry → Result Object (ℕ × AsmKind)
object sections symbols entries = Ok (record { sections = sections; symbols = symbols; entries = entries })

-- a GLOBAL label
a_number : assembled (lines (codes ".data" ∷ codes ".globl a::n" ∷ codes "a::n: .quad 7" ∷ []))
    ≡ object (written 1 (7 ∷ 0 ∷ 0 ∷ 0 ∷ 0 ∷ 0 ∷ 0 ∷ 0 ∷ []) ∷ []) (defined (codes "a::n") 1 0 ∷ []) []
a_number = refl

-- an address, and a number behind it
an_address : assembled (lines (codes ".rodata" ∷ codes ".globl b::p" ∷ codes "b::p: .quad a::n+4, 1" ∷ []))
    ≡ object (rodata 1 (0 ∷ 0 ∷ 0 ∷ 0 ∷ 0 ∷ 0 ∷ 0 ∷ 0 ∷ 1 ∷ 0 ∷ 0 ∷ 0 ∷ 0 ∷ 0 ∷ 0 ∷ 0 ∷ []) ∷ []) (defined (codes "b::p") 1 0 ∷ undefined (codes "a::n") ∷ []) (entry 1 0 Abs64 2 (pos 4) ∷ [])
an_address = refl

abbrev weakly : List ℕ → Home → Symbol
weakly name home = record { name = name; bind = Weak; sort = NoType; home = home; value = 0; size = 0 }

-- a WEAK name that is needed, and one that is defined
a_weak_need : assembled (lines (codes ".rodata" ∷ codes ".weak v::w" ∷ codes ".quad v::w" ∷ []))
    ≡ object (rodata 1 (0 ∷ 0 ∷ 0 ∷ 0 ∷ 0 ∷ 0 ∷ 0 ∷ 0 ∷ []) ∷ []) (weakly (codes "v::w") Undef ∷ []) (entry 1 0 Abs64 1 (pos 0) ∷ [])
a_weak_need = refl

a_weak_definition : assembled (lines (codes ".rodata" ∷ codes "v::w: .quad 0" ∷ codes ".weak v::w" ∷ []))
    ≡ object (rodata 1 (0 ∷ 0 ∷ 0 ∷ 0 ∷ 0 ∷ 0 ∷ 0 ∷ 0 ∷ []) ∷ []) (weakly (codes "v::w") (Inside 1) ∷ []) []
a_weak_definition = refl

-- one binding a name, both ways round
weak_after_global : assembled (lines (codes ".globl v::w" ∷ codes ".globl v::w" ∷ codes ".weak v::w" ∷ [])) ≡ Err (3, faults.Twice)
weak_after_global = refl

global_after_weak : assembled (lines (codes ".weak v::w" ∷ codes ".globl v::w" ∷ [])) ≡ Err (2, faults.Twice)
global_after_weak = refl

-- an upper part; an object's section of its own for each that is chosen
an_upper_part : assembled (lines (codes ".text" ∷ codes "lui a0,%hi(h::x)" ∷ codes ".data" ∷ codes ".zero 5" ∷ codes ".globl h::x" ∷ codes "h::x: .byte 1" ∷ []))
    ≡ object (text 1 (55 ∷ 5 ∷ 0 ∷ 0 ∷ []) ∷ written 2 (0 ∷ 0 ∷ 0 ∷ 0 ∷ 0 ∷ 1 ∷ []) ∷ []) (defined (codes "h::x") 2 5 ∷ []) (entry 1 0 Hi20 1 (pos 0) ∷ [])
unfolding Rattle.cell_asm.specs.Instructions.word
an_upper_part = refl

-- two instructions under one entry
a_call : assembled (lines (codes ".text" ∷ codes ".globl m::go" ∷ codes "m::go: li a7,3" ∷ codes "ecall" ∷ codes "call o::f" ∷ codes "li a7,0" ∷ codes "ecall" ∷ []))
    ≡ object (text 1 (147 ∷ 8 ∷ 48 ∷ 0 ∷ 115 ∷ 0 ∷ 0 ∷ 0 ∷ 151 ∷ 0 ∷ 0 ∷ 0 ∷ 231 ∷ 128 ∷ 0 ∷ 0 ∷ 147 ∷ 8 ∷ 0 ∷ 0 ∷ 115 ∷ 0 ∷ 0 ∷ 0 ∷ []) ∷ []) (defined (codes "m::go") 1 0 ∷ undefined (codes "o::f") ∷ []) (entry 1 8 CallPlt 2 (pos 0) ∷ [])
unfolding Rattle.cell_asm.specs.Instructions.word
a_call = refl

-- `la` makes a label, which stands among the LOCAL ones
an_address_loaded : assembled (lines (codes ".text" ∷ codes ".globl w::go" ∷ codes "w::go: la t0,w::p" ∷ codes "sd zero,0(t0)" ∷ codes "ret" ∷ codes ".data" ∷ codes "w::p: .quad w::go" ∷ []))
    ≡ object (text 1 (151 ∷ 2 ∷ 0 ∷ 0 ∷ 147 ∷ 130 ∷ 2 ∷ 0 ∷ 35 ∷ 176 ∷ 2 ∷ 0 ∷ 103 ∷ 128 ∷ 0 ∷ 0 ∷ []) ∷ written 2 (0 ∷ 0 ∷ 0 ∷ 0 ∷ 0 ∷ 0 ∷ 0 ∷ 0 ∷ []) ∷ []) (kept (codes ".La1") 1 0 ∷ kept (codes "w::p") 2 0 ∷ defined (codes "w::go") 1 0 ∷ []) (entry 1 0 PcrelHi20 2 (pos 0) ∷ entry 1 4 PcrelLo12I 1 (pos 0) ∷ entry 2 0 Abs64 3 (pos 0) ∷ [])
unfolding Rattle.std.specs.Fmt.digits Rattle.cell_asm.specs.Instructions.word
an_address_loaded = refl

-- shifts and quotients
quotients : assembled (lines (codes ".text" ∷ codes ".globl d::go" ∷ codes "d::go: li t0,1" ∷ codes "slli t0,t0,63" ∷ codes "li t1,-1" ∷ codes "div a0,t0,t1" ∷ codes "li a7,2" ∷ codes "ecall" ∷ codes "li a7,0" ∷ codes "ecall" ∷ []))
    ≡ object (text 1 (147 ∷ 2 ∷ 16 ∷ 0 ∷ 147 ∷ 146 ∷ 242 ∷ 3 ∷ 19 ∷ 3 ∷ 240 ∷ 255 ∷ 51 ∷ 197 ∷ 98 ∷ 2 ∷ 147 ∷ 8 ∷ 32 ∷ 0 ∷ 115 ∷ 0 ∷ 0 ∷ 0 ∷ 147 ∷ 8 ∷ 0 ∷ 0 ∷ 115 ∷ 0 ∷ 0 ∷ 0 ∷ []) ∷ []) (defined (codes "d::go") 1 0 ∷ []) ([])
unfolding Rattle.cell_asm.specs.Instructions.word
quotients = refl

-- a difference is an entry that adds and one that takes away, over zero bytes
a_difference : assembled (lines (codes ".rodata" ∷ codes ".word p::hi-q::lo" ∷ []))
    ≡ object (rodata 1 (0 ∷ 0 ∷ 0 ∷ 0 ∷ []) ∷ []) (undefined (codes "p::hi") ∷ undefined (codes "q::lo") ∷ []) (entry 1 0 Add32 1 (pos 0) ∷ entry 1 0 Sub32 2 (pos 0) ∷ [])
a_difference = refl

-- zeros that stand in no file, and an alignment asked for
reserved : assembled (lines (codes ".bss" ∷ codes "x: .zero 3" ∷ codes ".align 2" ∷ codes "y:" ∷ codes ".text" ∷ codes ".globl x" ∷ codes "nop # x" ∷ codes ".align 3" ∷ []))
    ≡ object (zeros 1 4 ∷ record (text 2 (19 ∷ 0 ∷ 0 ∷ 0 ∷ 19 ∷ 0 ∷ 0 ∷ 0 ∷ [])) { align = 8 } ∷ []) (kept (codes "y") 1 4 ∷ defined (codes "x") 1 0 ∷ []) ([])
unfolding Rattle.cell_asm.specs.Instructions.word
reserved = refl

-- the first line with a fault decides
no_word : assembled (lines (codes "nop" ∷ codes "frob" ∷ []))
    ≡ Err (1, faults.Section)
no_word = refl

-- a wrong word comes before a wrong count
word_first : assembled (lines (codes "frob: add a0,foo" ∷ []))
    ≡ Err (1, faults.Word)
word_first = refl

-- a number of 12 bits
out_of_range : assembled (lines (codes ".text" ∷ codes "li a0,2048" ∷ []))
    ≡ Err (2, faults.Range)
out_of_range = refl

-- instructions stay on multiples of four
narrow_in_text : assembled (lines (codes ".text" ∷ codes ".byte 1" ∷ []))
    ≡ Err (2, faults.Section)
narrow_in_text = refl

-- a label is defined once
defined_twice : assembled (lines (codes ".text" ∷ codes "x: nop" ∷ codes "x:" ∷ []))
    ≡ Err (3, faults.Twice)
defined_twice = refl

-- exactly the limit is not too long
too_long : assembled (lines (codes ".bss" ∷ codes ".zero 16777216" ∷ codes ".zero 99999999999999999999999999" ∷ []))
    ≡ Err (3, faults.Long)
too_long = refl

-- a label at another instruction
no_upper_part : assembled (lines (codes ".text" ∷ codes "lw a0,%pcrel_lo(x)(a0)" ∷ codes "x: nop" ∷ []))
    ≡ Err (2, faults.Label)
no_upper_part = refl

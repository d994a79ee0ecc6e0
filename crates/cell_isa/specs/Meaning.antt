-- What one instruction computes, from numbers alone.
--     result_of op pc a b i     the number that goes into rd
--     is_taken op a b           the branch or the jump is taken
--     aim_of op pc a i          where a branch or jump leads that is taken
--     access_of op              how the instruction touches memory
-- pc is the instruction's own address, a and b are rs1 and rs2, and i is the immediate. Addresses, registers and results
-- are numbers below 2^64.
-- RISC-V unprivileged manual, "Integer Computational Instructions", "Control Transfer Instructions", "Load and Store
-- Instructions", and "M Extension for Integer Multiplication and Division".
use Rattle.std.specs.Prelude.{ℕ, zero, ◌+◌, ◌-◌, ◌*◌, ◌/◌, ◌%◌, ◌^◌, ◌==◌, nat_lt, Bool, true, false, not, ℤ, pos, ◌*ℤ◌, int_lt, int_div, int_rem, bit_and, bit_or, bit_xor}
use Rattle.std.specs.Int.{int_shr}
use Rattle.cell_num.specs.Bits.{wrap, wrap_ℤ, signed, sign_extended}
use Rattle.cell_isa.specs.declared.insn.Op.{Op}
use Rattle.cell_isa.specs.declared.insn.Op.TheVariants.{Lui, Auipc, Jal, Jalr, Beq, Bne, Blt, Bge, Bltu, Bgeu, Lb, Lh, Lw, Ld, Lbu, Lhu, Lwu, Sb, Sh, Sw, Sd, Addi, Slti, Sltiu, Xori, Ori, Andi, Slli, Srli, Srai, Add, Sub, Sll, Slt, Sltu, Xor, Srl, Sra, Or, And, Addiw, Slliw, Srliw, Sraiw, Addw, Subw, Sllw, Srlw, Sraw, Mul, Mulh, Mulhsu, Mulhu, Div, Divu, Rem, Remu, Mulw, Divw, Divuw, Remw, Remuw}
use Rattle.cell_isa.specs.declared.memory.Access.{Access}
use Rattle.cell_isa.specs.declared.memory.Access.TheVariants.{Untouched, Loads, Stores}

abbrev pub flag : Bool → ℕ
flag true = 1
flag false = 0

-- the low 32 bits, sign-extended
abbrev pub word : ℕ → ℕ
word n = sign_extended 32 n

-- the low 32 bits as a signed number
abbrev pub signed_word : ℕ → ℤ
signed_word n = signed (word n)

-- a shift to the right that repeats the sign
abbrev pub shifted : ℤ → ℕ → ℕ
shifted z k = wrap_ℤ (int_shr z k)

-- division towards zero; by zero all ones. The least number by -1 wraps to itself
abbrev pub quotient : ℤ → ℤ → ℕ
quotient a (pos zero) = 2 ^ 64 - 1
quotient a b = wrap_ℤ (int_div a b)

-- the remainder has the dividend's sign; by zero it is the dividend
abbrev pub remainder : ℤ → ℤ → ℕ
remainder a (pos zero) = wrap_ℤ a
remainder a b = wrap_ℤ (int_rem a b)

-- the high 64 bits of a product
abbrev pub high_half : ℤ → ℕ
high_half z = shifted z 64

-- What goes into rd; 0 where nothing is computed for it. A shift takes the low six bits of its number, in the word
-- forms the low five: an immediate below 64, or below 32, is taken whole.
abbrev pub result_of : Op → ℕ → ℕ → ℕ → ℤ → ℕ
result_of Lui pc a b i = word (wrap_ℤ (i *ℤ pos 4096))
result_of Auipc pc a b i = wrap (pc + word (wrap_ℤ (i *ℤ pos 4096)))
result_of Jal pc a b i = wrap (pc + 4)
result_of Jalr pc a b i = wrap (pc + 4)
result_of Addi pc a b i = wrap (a + wrap_ℤ i)
result_of Slti pc a b i = flag (int_lt (signed a) i)
result_of Sltiu pc a b i = flag (nat_lt a (wrap_ℤ i))
result_of Xori pc a b i = bit_xor a (wrap_ℤ i)
result_of Ori pc a b i = bit_or a (wrap_ℤ i)
result_of Andi pc a b i = bit_and a (wrap_ℤ i)
result_of Slli pc a b i = wrap (a * 2 ^ (wrap_ℤ i % 64))
result_of Srli pc a b i = a / 2 ^ (wrap_ℤ i % 64)
result_of Srai pc a b i = shifted (signed a) (wrap_ℤ i % 64)
result_of Add pc a b i = wrap (a + b)
result_of Sub pc a b i = wrap (2 ^ 64 + a - b)
result_of Sll pc a b i = wrap (a * 2 ^ (b % 64))
result_of Slt pc a b i = flag (int_lt (signed a) (signed b))
result_of Sltu pc a b i = flag (nat_lt a b)
result_of Xor pc a b i = bit_xor a b
result_of Srl pc a b i = a / 2 ^ (b % 64)
result_of Sra pc a b i = shifted (signed a) (b % 64)
result_of Or pc a b i = bit_or a b
result_of And pc a b i = bit_and a b
result_of Mul pc a b i = wrap (a * b)
result_of Mulh pc a b i = high_half (signed a *ℤ signed b)
result_of Mulhsu pc a b i = high_half (signed a *ℤ pos b)
result_of Mulhu pc a b i = a * b / 2 ^ 64
result_of Div pc a b i = quotient (signed a) (signed b)
result_of Divu pc a b i = quotient (pos a) (pos b)
result_of Rem pc a b i = remainder (signed a) (signed b)
result_of Remu pc a b i = remainder (pos a) (pos b)
result_of Addiw pc a b i = word (a + wrap_ℤ i)
result_of Slliw pc a b i = word (a * 2 ^ (wrap_ℤ i % 32))
result_of Srliw pc a b i = word (a % 2 ^ 32 / 2 ^ (wrap_ℤ i % 32))
result_of Sraiw pc a b i = shifted (signed_word a) (wrap_ℤ i % 32)
result_of Addw pc a b i = word (a + b)
result_of Subw pc a b i = word (2 ^ 64 + a - b)
result_of Sllw pc a b i = word (a * 2 ^ (b % 32))
result_of Srlw pc a b i = word (a % 2 ^ 32 / 2 ^ (b % 32))
result_of Sraw pc a b i = shifted (signed_word a) (b % 32)
result_of Mulw pc a b i = word (a * b)
result_of Divw pc a b i = word (quotient (signed_word a) (signed_word b))
result_of Divuw pc a b i = word (quotient (pos (a % 2 ^ 32)) (pos (b % 2 ^ 32)))
result_of Remw pc a b i = word (remainder (signed_word a) (signed_word b))
result_of Remuw pc a b i = word (remainder (pos (a % 2 ^ 32)) (pos (b % 2 ^ 32)))
result_of _ pc a b i = 0

-- the branch is taken, or the jump
abbrev pub is_taken : Op → ℕ → ℕ → Bool
is_taken Beq a b = a == b
is_taken Bne a b = not (a == b)
is_taken Blt a b = int_lt (signed a) (signed b)
is_taken Bge a b = not (int_lt (signed a) (signed b))
is_taken Bltu a b = nat_lt a b
is_taken Bgeu a b = not (nat_lt a b)
is_taken Jal a b = true
is_taken Jalr a b = true
is_taken _ a b = false

-- where a taken branch or jump leads; jalr goes by rs1 and clears the lowest bit
abbrev pub aim_of : Op → ℕ → ℕ → ℤ → ℕ
aim_of Jalr pc a i = wrap (a + wrap_ℤ i) / 2 * 2
aim_of _ pc a i = wrap (pc + wrap_ℤ i)

-- a load of so many bytes, with its sign or without, a store of so many, or neither
abbrev pub access_of : Op → Access
access_of Lb = Loads 1 true
access_of Lh = Loads 2 true
access_of Lw = Loads 4 true
access_of Ld = Loads 8 true
access_of Lbu = Loads 1 false
access_of Lhu = Loads 2 false
access_of Lwu = Loads 4 false
access_of Sb = Stores 1
access_of Sh = Stores 2
access_of Sw = Stores 4
access_of Sd = Stores 8
access_of _ = Untouched

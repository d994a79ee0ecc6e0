-- Worked rows, through both definitions.
use Rattle.std.specs.Prelude.{◌≡◌, ℕ, ℤ, pos, negsuc, Some, None, refl}
use Rattle.cell_isa.specs.declared.insn.Insn.{Insn}
use Rattle.cell_isa.specs.declared.insn.Op.{Op}
use Rattle.cell_isa.specs.declared.insn.Op.TheVariants.{Lui, Addi, Slli, Srai, Mul, Jal, Beq, Sd, Fence, Ecall, Ebreak}
use Rattle.cell_isa.specs.Instruction.{decode, encode}

abbrev insn : Op → ℕ → ℕ → ℕ → ℤ → Insn
insn op rd rs1 rs2 imm = record { op = op; rd = rd; rs1 = rs1; rs2 = rs2; imm = imm }

-- mul a0, a1, a2
mul : (decode 0x02c58533 ≡ Some (insn Mul 10 11 12 (pos 0))) × (encode (insn Mul 10 11 12 (pos 0)) ≡ Some 0x02c58533)
unfolding decode
mul = (refl, refl)

-- slli zero, zero, 32
slli : (decode 0x02001013 ≡ Some (insn Slli 0 0 0 (pos 32))) × (encode (insn Slli 0 0 0 (pos 32)) ≡ Some 0x02001013)
unfolding decode
slli = (refl, refl)

-- lui a0, 0x10001
lui : (decode 0x10001537 ≡ Some (insn Lui 10 0 0 (pos 0x10001))) × (encode (insn Lui 10 0 0 (pos 0x10001)) ≡ Some 0x10001537)
unfolding decode
lui = (refl, refl)

-- addi a0, a0, -2048
addi : (decode 0x80050513 ≡ Some (insn Addi 10 10 0 (negsuc 2047))) × (encode (insn Addi 10 10 0 (negsuc 2047)) ≡ Some 0x80050513)
unfolding decode
addi = (refl, refl)

-- fence
fence : (decode 0x0ff0000f ≡ Some (insn Fence 0 0 0 (pos 255))) × (encode (insn Fence 0 0 0 (pos 255)) ≡ Some 0x0ff0000f)
unfolding decode
fence = (refl, refl)

-- ecall and ebreak
calls : (decode 0x73 ≡ Some (insn Ecall 0 0 0 (pos 0))) × (encode (insn Ebreak 0 0 0 (pos 0)) ≡ Some 0x00100073)
unfolding decode
calls = (refl, refl)

-- beq zero, zero and jal zero, both four bytes back
back : (encode (insn Beq 0 0 0 (negsuc 3)) ≡ Some 0xfe000ee3) × (encode (insn Jal 0 0 0 (negsuc 3)) ≡ Some 0xffdff06f)
back = (refl, refl)

-- words without a row: two shifts that are too far, no opcode, an ecall with a register
no_row : (decode 0x04001013 ≡ None) × (decode 0x0200101b ≡ None) × (decode 0 ≡ None) × (decode 0x000000f3 ≡ None)
unfolding decode
no_row = (refl, refl, refl, refl)

-- instructions without a word: register 32, immediates too large or odd, an unused register that isn't 0
no_word : (encode (insn Addi 32 0 0 (pos 0)) ≡ None) × (encode (insn Addi 1 0 0 (pos 2048)) ≡ None) × (encode (insn Beq 0 0 0 (pos 3)) ≡ None)
    × (encode (insn Lui 1 1 0 (pos 0)) ≡ None) × (encode (insn Srai 1 1 0 (pos 64)) ≡ None) × (encode (insn Ecall 1 0 0 (pos 0)) ≡ None)
no_word = (refl, refl, refl, refl, refl, refl)

-- sd t1, -1(t0)
sd : encode (insn Sd 0 5 6 (negsuc 0)) ≡ Some 0xfe62bfa3
sd = refl

-- The operations by what a hart takes of their words.
--     is_immediate, is_register, is_shift, is_shift_word, is_upper     a number goes into rd, from rs1 and the immediate, from rs1
--                                                                      and rs2, by so many bits, and from the upper bits alone
--     is_branch                                                        the pc goes on, or to another place
use Rattle.std.specs.Prelude.{Bool, true, false}
use Rattle.cell_isa.specs.declared.insn.Op.{Op}
use Rattle.cell_isa.specs.declared.insn.Op.TheVariants.{Lui, Auipc, Beq, Bne, Blt, Bge, Bltu, Bgeu, Addi, Slti, Sltiu, Xori, Ori, Andi, Slli, Srli, Srai, Add, Sub, Sll, Slt, Sltu, Xor, Srl, Sra, Or, And, Addiw, Slliw, Srliw, Sraiw, Addw, Subw}
use Rattle.cell_isa.specs.declared.insn.Op.TheVariants.{Sllw, Srlw, Sraw, Mul, Mulh, Mulhsu, Mulhu, Div, Divu, Rem, Remu, Mulw, Divw, Divuw, Remw, Remuw}

abbrev pub is_immediate : Op → Bool
is_immediate Addi = true
is_immediate Slti = true
is_immediate Sltiu = true
is_immediate Xori = true
is_immediate Ori = true
is_immediate Andi = true
is_immediate Addiw = true
is_immediate _ = false

abbrev pub is_register : Op → Bool
is_register Add = true
is_register Sub = true
is_register Sll = true
is_register Slt = true
is_register Sltu = true
is_register Xor = true
is_register Srl = true
is_register Sra = true
is_register Or = true
is_register And = true
is_register Addw = true
is_register Subw = true
is_register Sllw = true
is_register Srlw = true
is_register Sraw = true
is_register Mul = true
is_register Mulh = true
is_register Mulhsu = true
is_register Mulhu = true
is_register Div = true
is_register Divu = true
is_register Rem = true
is_register Remu = true
is_register Mulw = true
is_register Divw = true
is_register Divuw = true
is_register Remw = true
is_register Remuw = true
is_register _ = false

abbrev pub is_shift : Op → Bool
is_shift Slli = true
is_shift Srli = true
is_shift Srai = true
is_shift _ = false

abbrev pub is_shift_word : Op → Bool
is_shift_word Slliw = true
is_shift_word Srliw = true
is_shift_word Sraiw = true
is_shift_word _ = false

abbrev pub is_upper : Op → Bool
is_upper Lui = true
is_upper Auipc = true
is_upper _ = false

abbrev pub is_branch : Op → Bool
is_branch Beq = true
is_branch Bne = true
is_branch Blt = true
is_branch Bge = true
is_branch Bltu = true
is_branch Bgeu = true
is_branch _ = false

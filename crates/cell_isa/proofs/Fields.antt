-- Each format: the word of an instruction has its row's numbers, and gives the instruction again.
use Rattle.std.proofs.Common.{◌≡◌, ℕ, ◌+◌, ◌*◌, ◌/◌, ◌%◌, ◌^◌, ◌<◌, ◌≤◌, true, false, ap, sym, ◌∙◌, refl, arith}
use Rattle.std.specs.Prelude.{ℤ, pos}
use Rattle.std.proofs.lemmas.Bool.{and_parts, eqb-true}
use Rattle.std.proofs.lemmas.Bool.Decides.{nat_tests}
use Rattle.cell_num.specs.Bits.{bits_at, modulo_2}
use Rattle.cell_isa.specs.declared.insn.Insn.{Insn}
use Rattle.cell_isa.specs.declared.format.Format.{Format}
use Rattle.cell_isa.specs.declared.format.Format.TheVariants.{Upper, Jump, Immediate, Branch, Store, Register, Shift, ShiftWord}
use Rattle.cell_isa.specs.Table.{has_functions}
use Rattle.cell_isa.specs.Instruction.{fields_at, have_room, is_register, has_rd, has_rs1, has_rs2, word_with, does_fit, immediate, signed_bits}
use Rattle.cell_isa.proofs.Signs.{range_12, range_13, range_21, even_low, natural, eq_true, both}

pub record Room (insn : Insn) (format : Format) : Type 0 where
  pub rd : is_register (has_rd format) insn.rd ≡ true
  pub rs1 : is_register (has_rs1 format) insn.rs1 ≡ true
  pub rs2 : is_register (has_rs2 format) insn.rs2 ≡ true
  pub imm : does_fit format insn.imm ≡ true

pub room_of : (insn : Insn) (format : Format) → have_room insn format ≡ true → Room insn format
room_of insn format h =
    let p = and_parts _ _ h in
    let q = and_parts _ _ p.0 in
    let r = and_parts _ _ q.0 in
    record { rd = r.0; rs1 = r.1; rs2 = q.1; imm = p.1 }

-- what a word gives again
pub record Gives (w : ℕ) (insn : Insn) (format : Format) (o n3 n7 : ℕ) : Type 0 where
  pub opcode : bits_at 6 0 w ≡ o
  pub functions : has_functions format n3 n7 (bits_at 14 12 w) (bits_at 31 25 w) ≡ true
  pub fields : fields_at insn.op format w ≡ insn

pub made : (insn : Insn) (rd rs1 rs2 : ℕ) (imm : ℤ) → rd ≡ insn.rd → rs1 ≡ insn.rs1 → rs2 ≡ insn.rs2 → imm ≡ insn.imm
    → (let made : Insn = record { op = insn.op; rd = rd; rs1 = rs1; rs2 = rs2; imm = imm } in made ≡ insn)
made insn rd rs1 rs2 imm a b c d = rw (a, b, c, d) refl

used : (n : ℕ) → is_register true n ≡ true → n < 32
used n h = grind (arith, nat_tests)

pub unused : (n : ℕ) → is_register false n ≡ true → n ≡ 0
unused n h = eqb-true n 0 h

pub gives_Upper : (insn : Insn) (w o n3 n7 : ℕ) → o < 128 → n3 ≡ 0 → n7 ≡ 0 → have_room insn Upper ≡ true
    → w ≡ word_with insn Upper o n3 n7 → Gives w insn Upper o n3 n7
gives_Upper insn w o n3 n7 ho h3 h7 h e =
    let r = room_of insn Upper h in
    let a : insn.rd < 32 = used _ r.rd in
    let b : insn.rs1 ≡ 0 = unused _ r.rs1 in
    let c : insn.rs2 ≡ 0 = unused _ r.rs2 in
    let z = natural insn.imm 0xfffff (omega arith) r.imm in
    let y : modulo_2 32 insn.imm ≤ 0xfffff = z.1 in
    let n : bits_at 31 12 w ≡ modulo_2 32 insn.imm = omega arith in
    let rd : bits_at 11 7 w ≡ insn.rd = omega arith in
    record { opcode = omega arith; functions = refl; fields = made insn (bits_at 11 7 w) 0 0 (pos (bits_at 31 12 w)) rd (sym b) (sym c) (ap pos n ∙ z.0) }

pub gives_Jump : (insn : Insn) (w o n3 n7 : ℕ) → o < 128 → n3 ≡ 0 → n7 ≡ 0 → have_room insn Jump ≡ true
    → w ≡ word_with insn Jump o n3 n7 → Gives w insn Jump o n3 n7
gives_Jump insn w o n3 n7 ho h3 h7 h e =
    let r = room_of insn Jump h in
    let a : insn.rd < 32 = used _ r.rd in
    let b : insn.rs1 ≡ 0 = unused _ r.rs1 in
    let c : insn.rs2 ≡ 0 = unused _ r.rs2 in
    let z = and_parts _ _ r.imm in
    let m : ℕ = modulo_2 32 insn.imm in
    let y : m % 2 ≡ 0 = even_low insn.imm z.0 in
    let rd : bits_at 11 7 w ≡ insn.rd = omega arith in
    let i : bits_at 31 31 w ≡ bits_at 20 20 m = omega arith in
    let j : bits_at 19 12 w ≡ bits_at 19 12 m = omega arith in
    let k : bits_at 20 20 w ≡ bits_at 11 11 m = omega arith in
    let l : bits_at 30 21 w ≡ bits_at 10 1 m = omega arith in
    let n : bits_at 31 31 w * 2 ^ 20 + bits_at 19 12 w * 2 ^ 12 + bits_at 20 20 w * 2 ^ 11 + bits_at 30 21 w * 2 ≡ m % 2097152 =
    rw (i, j, k, l) (omega arith) in
    record { opcode = omega arith; functions = refl; fields = made insn (bits_at 11 7 w) 0 0 (immediate Jump w) rd (sym b) (sym c) (ap (signed_bits 21) n ∙ range_21 insn.imm z.1) }

pub gives_Immediate : (insn : Insn) (w o n3 n7 : ℕ) → o < 128 → n3 < 8 → n7 ≡ 0 → have_room insn Immediate ≡ true
    → w ≡ word_with insn Immediate o n3 n7 → Gives w insn Immediate o n3 n7
gives_Immediate insn w o n3 n7 ho h3 h7 h e =
    let r = room_of insn Immediate h in
    let a : insn.rd < 32 = used _ r.rd in
    let b : insn.rs1 < 32 = used _ r.rs1 in
    let c : insn.rs2 ≡ 0 = unused _ r.rs2 in
    let m : ℕ = modulo_2 32 insn.imm in
    let rd : bits_at 11 7 w ≡ insn.rd = omega arith in
    let rs1 : bits_at 19 15 w ≡ insn.rs1 = omega arith in
    let f : bits_at 14 12 w ≡ n3 = omega arith in
    let n : bits_at 31 20 w ≡ m % 4096 = omega arith in
    record { opcode = omega arith; functions = eq_true _ _ f; fields = rw (rd, rs1, n, sym c, range_12 insn.imm r.imm) refl }

pub gives_Branch : (insn : Insn) (w o n3 n7 : ℕ) → o < 128 → n3 < 8 → n7 ≡ 0 → have_room insn Branch ≡ true
    → w ≡ word_with insn Branch o n3 n7 → Gives w insn Branch o n3 n7
gives_Branch insn w o n3 n7 ho h3 h7 h e =
    let r = room_of insn Branch h in
    let a : insn.rd ≡ 0 = unused _ r.rd in
    let b : insn.rs1 < 32 = used _ r.rs1 in
    let c : insn.rs2 < 32 = used _ r.rs2 in
    let z = and_parts _ _ r.imm in
    let m : ℕ = modulo_2 32 insn.imm in
    let y : m % 2 ≡ 0 = even_low insn.imm z.0 in
    let rs1 : bits_at 19 15 w ≡ insn.rs1 = omega arith in
    let rs2 : bits_at 24 20 w ≡ insn.rs2 = omega arith in
    let f : bits_at 14 12 w ≡ n3 = omega arith in
    let i : bits_at 31 31 w ≡ bits_at 12 12 m = omega arith in
    let j : bits_at 7 7 w ≡ bits_at 11 11 m = omega arith in
    let k : bits_at 30 25 w ≡ bits_at 10 5 m = omega arith in
    let l : bits_at 11 8 w ≡ bits_at 4 1 m = omega arith in
    let n : bits_at 31 31 w * 2 ^ 12 + bits_at 7 7 w * 2 ^ 11 + bits_at 30 25 w * 2 ^ 5 + bits_at 11 8 w * 2 ≡ m % 8192 =
    rw (i, j, k, l) (omega arith) in
    record { opcode = omega arith; functions = eq_true _ _ f; fields = rw (rs1, rs2, n, sym a, range_13 insn.imm z.1) refl }

pub gives_Store : (insn : Insn) (w o n3 n7 : ℕ) → o < 128 → n3 < 8 → n7 ≡ 0 → have_room insn Store ≡ true
    → w ≡ word_with insn Store o n3 n7 → Gives w insn Store o n3 n7
gives_Store insn w o n3 n7 ho h3 h7 h e =
    let r = room_of insn Store h in
    let a : insn.rd ≡ 0 = unused _ r.rd in
    let b : insn.rs1 < 32 = used _ r.rs1 in
    let c : insn.rs2 < 32 = used _ r.rs2 in
    let m : ℕ = modulo_2 32 insn.imm in
    let rs1 : bits_at 19 15 w ≡ insn.rs1 = omega arith in
    let rs2 : bits_at 24 20 w ≡ insn.rs2 = omega arith in
    let f : bits_at 14 12 w ≡ n3 = omega arith in
    let i : bits_at 31 25 w ≡ bits_at 11 5 m = omega arith in
    let j : bits_at 11 7 w ≡ bits_at 4 0 m = omega arith in
    let n : bits_at 31 25 w * 32 + bits_at 11 7 w ≡ m % 4096 = rw (i, j) (omega arith) in
    record { opcode = omega arith; functions = eq_true _ _ f; fields = rw (rs1, rs2, n, sym a, range_12 insn.imm r.imm) refl }

pub gives_Register : (insn : Insn) (w o n3 n7 : ℕ) → o < 128 → n3 < 8 → n7 < 128 → have_room insn Register ≡ true
    → w ≡ word_with insn Register o n3 n7 → Gives w insn Register o n3 n7
gives_Register insn w o n3 n7 ho h3 h7 h e =
    let r = room_of insn Register h in
    let a : insn.rd < 32 = used _ r.rd in
    let b : insn.rs1 < 32 = used _ r.rs1 in
    let c : insn.rs2 < 32 = used _ r.rs2 in
    let z = natural insn.imm 0 (omega arith) r.imm in
    let y : modulo_2 32 insn.imm ≡ 0 = omega (arith, z.1) in
    let rd : bits_at 11 7 w ≡ insn.rd = omega arith in
    let rs1 : bits_at 19 15 w ≡ insn.rs1 = omega arith in
    let rs2 : bits_at 24 20 w ≡ insn.rs2 = omega arith in
    let f : bits_at 14 12 w ≡ n3 = omega arith in
    let g : bits_at 31 25 w ≡ n7 = omega arith in
    let i : pos 0 ≡ insn.imm = ap pos (sym y) ∙ z.0 in
    record { opcode = omega arith; functions = both _ _ (eq_true _ _ f) (eq_true _ _ g); fields = rw (rd, rs1, rs2, i) refl }

pub gives_Shift : (insn : Insn) (w o n3 n7 : ℕ) → o < 128 → n3 < 8 → n7 < 128 → n7 % 2 ≡ 0 → have_room insn Shift ≡ true
    → w ≡ word_with insn Shift o n3 n7 → Gives w insn Shift o n3 n7
gives_Shift insn w o n3 n7 ho h3 h7 even h e =
    let r = room_of insn Shift h in
    let a : insn.rd < 32 = used _ r.rd in
    let b : insn.rs1 < 32 = used _ r.rs1 in
    let c : insn.rs2 ≡ 0 = unused _ r.rs2 in
    let z = natural insn.imm 63 (omega arith) r.imm in
    let y : modulo_2 32 insn.imm ≤ 63 = z.1 in
    let rd : bits_at 11 7 w ≡ insn.rd = omega arith in
    let rs1 : bits_at 19 15 w ≡ insn.rs1 = omega arith in
    let f : bits_at 14 12 w ≡ n3 = omega arith in
    let g : bits_at 31 25 w / 2 ≡ n7 / 2 = omega arith in
    let n : bits_at 25 20 w ≡ modulo_2 32 insn.imm = omega arith in
    record { opcode = omega arith; functions = both _ _ (eq_true _ _ f) (eq_true _ _ g); fields = rw (rd, rs1, n, sym c, z.0) refl }

pub gives_ShiftWord : (insn : Insn) (w o n3 n7 : ℕ) → o < 128 → n3 < 8 → n7 < 128 → have_room insn ShiftWord ≡ true
    → w ≡ word_with insn ShiftWord o n3 n7 → Gives w insn ShiftWord o n3 n7
gives_ShiftWord insn w o n3 n7 ho h3 h7 h e =
    let r = room_of insn ShiftWord h in
    let a : insn.rd < 32 = used _ r.rd in
    let b : insn.rs1 < 32 = used _ r.rs1 in
    let c : insn.rs2 ≡ 0 = unused _ r.rs2 in
    let z = natural insn.imm 31 (omega arith) r.imm in
    let y : modulo_2 32 insn.imm ≤ 31 = z.1 in
    let rd : bits_at 11 7 w ≡ insn.rd = omega arith in
    let rs1 : bits_at 19 15 w ≡ insn.rs1 = omega arith in
    let f : bits_at 14 12 w ≡ n3 = omega arith in
    let g : bits_at 31 25 w ≡ n7 = omega arith in
    let n : bits_at 24 20 w ≡ modulo_2 32 insn.imm = omega arith in
    record { opcode = omega arith; functions = both _ _ (eq_true _ _ f) (eq_true _ _ g); fields = rw (rd, rs1, n, sym c, z.0) refl }

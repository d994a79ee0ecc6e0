-- Each format: what stands in a word has room, and gives the word again.
use Rattle.std.proofs.Common.{◌≡◌, ℕ, ◌+◌, ◌*◌, ◌/◌, ◌%◌, ◌^◌, ◌<◌, ◌≤◌, Bool, true, false, refl, arith}
use Rattle.std.specs.Prelude.{if◌then◌else◌, pos}
use Rattle.std.proofs.lemmas.Bool.Decides.{nat_tests}
use Rattle.cell_num.specs.Bits.{bits_at, modulo_2}
use Rattle.cell_isa.specs.declared.insn.Op.{Op}
use Rattle.cell_isa.specs.declared.format.Format.{Format}
use Rattle.cell_isa.specs.declared.format.Format.TheVariants.{Upper, Jump, Immediate, Branch, Store, Register, Shift, ShiftWord}
use Rattle.cell_isa.specs.Instruction.{is_register, is_within, has_rd, has_rs1, has_rs2, fields_at, have_room, immediate_bits, word_with, does_fit, signed_bits, immediate}
use Rattle.cell_isa.proofs.Signs.{low_12, low_13, low_21, fits_12, fits_13, fits_21, lt_true, both}

-- the immediate's bits, from the number that its low bits make
jump_bits : (m a b c d : ℕ) → a < 2 → b < 256 → c < 2 → d < 1024 → m % 2097152 ≡ a * 2 ^ 20 + b * 2 ^ 12 + c * 2 ^ 11 + d * 2
    → immediate_bits Jump m ≡ a * 2 ^ 31 + d * 2 ^ 21 + c * 2 ^ 20 + b * 2 ^ 12
jump_bits m a b c d ha hb hc hd h =
    let pa : bits_at 20 20 m ≡ a = omega arith in
    let pb : bits_at 19 12 m ≡ b = omega arith in
    let pc : bits_at 11 11 m ≡ c = omega arith in
    let pd : bits_at 10 1 m ≡ d = omega arith in
    rw (pa, pb, pc, pd) refl

branch_bits : (m a b c d : ℕ) → a < 2 → b < 2 → c < 64 → d < 16 → m % 8192 ≡ a * 2 ^ 12 + b * 2 ^ 11 + c * 2 ^ 5 + d * 2
    → immediate_bits Branch m ≡ a * 2 ^ 31 + c * 2 ^ 25 + d * 2 ^ 8 + b * 2 ^ 7
branch_bits m a b c d ha hb hc hd h =
    let pa : bits_at 12 12 m ≡ a = omega arith in
    let pb : bits_at 11 11 m ≡ b = omega arith in
    let pc : bits_at 10 5 m ≡ c = omega arith in
    let pd : bits_at 4 1 m ≡ d = omega arith in
    rw (pa, pb, pc, pd) refl

store_bits : (m a b : ℕ) → a < 128 → b < 32 → m % 4096 ≡ a * 32 + b → immediate_bits Store m ≡ a * 2 ^ 25 + b * 2 ^ 7
store_bits m a b ha hb h =
    let pa : bits_at 11 5 m ≡ a = omega arith in
    let pb : bits_at 4 0 m ≡ b = omega arith in
    rw (pa, pb) refl

-- the word is given again
pub again_Upper : (w o n3 n7 : ℕ) (op : Op) → w < 2 ^ 32 → bits_at 6 0 w ≡ o → n3 ≡ 0 → n7 ≡ 0
    → word_with (fields_at op Upper w) Upper o n3 n7 ≡ w
again_Upper w o n3 n7 op h h0 h1 h2 = omega arith

pub again_Jump : (w o n3 n7 : ℕ) (op : Op) → w < 2 ^ 32 → bits_at 6 0 w ≡ o → n3 ≡ 0 → n7 ≡ 0
    → word_with (fields_at op Jump w) Jump o n3 n7 ≡ w
again_Jump w o n3 n7 op h h0 h1 h2 =
    let n : ℕ = bits_at 31 31 w * 2 ^ 20 + bits_at 19 12 w * 2 ^ 12 + bits_at 20 20 w * 2 ^ 11 + bits_at 30 21 w * 2 in
    let e : modulo_2 32 (signed_bits 21 n) % 2097152 ≡ n = low_21 n (omega arith) in
    rw (jump_bits (modulo_2 32 (signed_bits 21 n)) (bits_at 31 31 w) (bits_at 19 12 w) (bits_at 20 20 w) (bits_at 30 21 w)
    (omega arith) (omega arith) (omega arith) (omega arith) e) (omega arith)

pub again_Immediate : (w o n3 n7 : ℕ) (op : Op) → w < 2 ^ 32 → bits_at 6 0 w ≡ o → bits_at 14 12 w ≡ n3 → n7 ≡ 0
    → word_with (fields_at op Immediate w) Immediate o n3 n7 ≡ w
again_Immediate w o n3 n7 op h h0 h1 h2 =
    let n : ℕ = bits_at 31 20 w in
    let e : modulo_2 32 (signed_bits 12 n) % 4096 ≡ n = low_12 n (omega arith) in
    let p : bits_at 11 0 (modulo_2 32 (signed_bits 12 n)) ≡ n = omega arith in
    rw p (omega arith)

pub again_Branch : (w o n3 n7 : ℕ) (op : Op) → w < 2 ^ 32 → bits_at 6 0 w ≡ o → bits_at 14 12 w ≡ n3 → n7 ≡ 0
    → word_with (fields_at op Branch w) Branch o n3 n7 ≡ w
again_Branch w o n3 n7 op h h0 h1 h2 =
    let n : ℕ = bits_at 31 31 w * 2 ^ 12 + bits_at 7 7 w * 2 ^ 11 + bits_at 30 25 w * 2 ^ 5 + bits_at 11 8 w * 2 in
    let e : modulo_2 32 (signed_bits 13 n) % 8192 ≡ n = low_13 n (omega arith) in
    rw (branch_bits (modulo_2 32 (signed_bits 13 n)) (bits_at 31 31 w) (bits_at 7 7 w) (bits_at 30 25 w) (bits_at 11 8 w)
    (omega arith) (omega arith) (omega arith) (omega arith) e) (omega arith)

pub again_Store : (w o n3 n7 : ℕ) (op : Op) → w < 2 ^ 32 → bits_at 6 0 w ≡ o → bits_at 14 12 w ≡ n3 → n7 ≡ 0
    → word_with (fields_at op Store w) Store o n3 n7 ≡ w
again_Store w o n3 n7 op h h0 h1 h2 =
    let n : ℕ = bits_at 31 25 w * 32 + bits_at 11 7 w in
    let e : modulo_2 32 (signed_bits 12 n) % 4096 ≡ n = low_12 n (omega arith) in
    rw (store_bits (modulo_2 32 (signed_bits 12 n)) (bits_at 31 25 w) (bits_at 11 7 w) (omega arith) (omega arith) e) (omega arith)

pub again_Register : (w o n3 n7 : ℕ) (op : Op) → w < 2 ^ 32 → bits_at 6 0 w ≡ o → bits_at 14 12 w ≡ n3 → bits_at 31 25 w ≡ n7
    → word_with (fields_at op Register w) Register o n3 n7 ≡ w
again_Register w o n3 n7 op h h0 h1 h2 = omega arith

pub again_Shift : (w o n3 n7 : ℕ) (op : Op) → w < 2 ^ 32 → bits_at 6 0 w ≡ o → bits_at 14 12 w ≡ n3 → bits_at 31 25 w / 2 ≡ n7 / 2 → n7 % 2 ≡ 0
    → word_with (fields_at op Shift w) Shift o n3 n7 ≡ w
again_Shift w o n3 n7 op h h0 h1 h2 h3 = omega arith

pub again_ShiftWord : (w o n3 n7 : ℕ) (op : Op) → w < 2 ^ 32 → bits_at 6 0 w ≡ o → bits_at 14 12 w ≡ n3 → bits_at 31 25 w ≡ n7
    → word_with (fields_at op ShiftWord w) ShiftWord o n3 n7 ≡ w
again_ShiftWord w o n3 n7 op h h0 h1 h2 = omega arith

-- what stands in a word has room
register : (used : Bool) (n : ℕ) → n < 32 → is_register used (if used then n else 0) ≡ true
register true n h = lt_true n 32 h
register false n h = refl

within : (n top : ℕ) → n ≤ top → is_within (pos 0) (pos top) (pos n) ≡ true
within n top h = grind (arith, nat_tests)

fits : (format : Format) (w : ℕ) → does_fit format (immediate format w) ≡ true
fits Upper w = within (bits_at 31 12 w) 0xfffff (omega arith)
fits Jump w = fits_21 (bits_at 31 31 w * 2 ^ 20 + bits_at 19 12 w * 2 ^ 12 + bits_at 20 20 w * 2 ^ 11 + bits_at 30 21 w * 2) (omega arith) (omega arith)
fits Immediate w = fits_12 (bits_at 31 20 w) (omega arith)
fits Branch w = fits_13 (bits_at 31 31 w * 2 ^ 12 + bits_at 7 7 w * 2 ^ 11 + bits_at 30 25 w * 2 ^ 5 + bits_at 11 8 w * 2) (omega arith) (omega arith)
fits Store w = fits_12 (bits_at 31 25 w * 32 + bits_at 11 7 w) (omega arith)
fits Register w = refl
fits Shift w = within (bits_at 25 20 w) 63 (omega arith)
fits ShiftWord w = within (bits_at 24 20 w) 31 (omega arith)

pub has_room : (op : Op) (format : Format) (w : ℕ) → have_room (fields_at op format w) format ≡ true
has_room op format w =
    both _ _
    (both _ _
    (both _ _ (register (has_rd format) (bits_at 11 7 w) (omega arith)) (register (has_rs1 format) (bits_at 19 15 w) (omega arith)))
    (register (has_rs2 format) (bits_at 24 20 w) (omega arith)))
    (fits format w)

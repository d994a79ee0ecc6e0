-- What the instruction of a word does, by the row that the word is of.
use Rattle.std.proofs.Common.{◌≡◌, ap, ◌∙◌, ℕ, ◌+◌, Bool, true, false, List, Option, Some, None}
use Rattle.std.specs.Prelude.{ℤ, slice_index, option_map, if◌then◌else◌}
use Rattle.std.proofs.lemmas.Bool.{false≢true}
use Rattle.cell_num.specs.Bits.{bits_at, wrap, wrap_ℤ}
use Rattle.cell_num.specs.declared.ids.Cause.TheVariants.{Illegal}
use Rattle.cell_isa.specs.declared.insn.Insn.{Insn}
use Rattle.cell_isa.specs.declared.insn.Op.{Op}
use Rattle.cell_isa.specs.declared.insn.Op.TheVariants.{Lui, Auipc, Jal, Jalr, Beq, Bne, Blt, Bge, Bltu, Bgeu, Lb, Lh, Lw, Ld, Lbu, Lhu, Lwu, Sb, Sh, Sw, Sd, Addi, Slti, Sltiu, Xori, Ori, Andi, Slli, Srli, Srai, Add, Sub, Sll, Slt, Sltu, Xor, Srl, Sra, Or, And, Addiw, Slliw, Srliw, Sraiw, Addw, Subw}
use Rattle.cell_isa.specs.declared.insn.Op.TheVariants.{Sllw, Srlw, Sraw, Mul, Mulh, Mulhsu, Mulhu, Div, Divu, Rem, Remu, Mulw, Divw, Divuw, Remw, Remuw}
use Rattle.cell_isa.specs.declared.format.Format.TheVariants.{Branch as BranchForm, Immediate, Jump, Register, Shift, ShiftWord, Store as StoreForm, Upper}
use Rattle.cell_isa.specs.declared.memory.Access.{Access}
use Rattle.cell_isa.specs.declared.memory.Access.TheVariants.{Loads, Stores}
use Rattle.cell_isa.specs.Instruction.{decode, fields_at, immediate, instruction}
use Rattle.cell_isa.specs.Meaning.{access_of, aim_of, is_taken, result_of}
use Rattle.cell_isa.specs.Table.{is_of_row, row_of}
use Rattle.cell_isa.proofs.Rows.{first}
use Rattle.cell_world.specs.Running.Execute.{Seen, Traps, accessed, computed, execute_word, jumped, loaded, performed, stored}
use Rattle.cell_hart.specs.Forms.{is_branch, is_immediate, is_register, is_shift, is_shift_word, is_upper}

decoded : (w : ℕ) (op : Op) → is_of_row w (row_of op) ≡ true → decode w ≡ Some (instruction w op (row_of op))
unfolding decode
decoded w op h = ap (option_map (λ o. instruction w o (row_of o))) (first op w h)

known : (m : Seen) (x : List ℕ) (pc w : ℕ) (op : Op) → is_of_row w (row_of op) ≡ true
    → execute_word m x pc w ≡ performed m x pc (instruction w op (row_of op)) (instruction w op (row_of op)).op
known m x pc w op h = ap (λ (o : Option Insn). elim o [ None ↦ Traps Illegal | Some insn ↦ performed m x pc insn insn.op ]) (decoded w op h)

immediates : (op : Op) → is_immediate op ≡ true → (m : Seen) (x : List ℕ) (pc w : ℕ) → is_of_row w (row_of op) ≡ true
    → execute_word m x pc w ≡ computed m x pc (bits_at 11 7 w) (result_of op pc (slice_index x (bits_at 19 15 w)) (slice_index x 0) (immediate Immediate w))
immediates Addi t m x pc w h = known m x pc w Addi h
immediates Slti t m x pc w h = known m x pc w Slti h
immediates Sltiu t m x pc w h = known m x pc w Sltiu h
immediates Xori t m x pc w h = known m x pc w Xori h
immediates Ori t m x pc w h = known m x pc w Ori h
immediates Andi t m x pc w h = known m x pc w Andi h
immediates Addiw t m x pc w h = known m x pc w Addiw h
immediates _ t m x pc w h = absurd (false≢true t)

pub immediate_is : (op : Op) (m : Seen) (x : List ℕ) (pc w r1 rd a b value : ℕ) (imm : ℤ) → is_immediate op ≡ true → is_of_row w (row_of op) ≡ true
    → r1 ≡ bits_at 19 15 w → a ≡ slice_index x r1 → b ≡ slice_index x 0 → imm ≡ immediate Immediate w → value ≡ result_of op pc a b imm → rd ≡ bits_at 11 7 w
    → execute_word m x pc w ≡ computed m x pc rd value
immediate_is op m x pc w r1 rd a b value imm t h e1 ea eb ei ev ed = rw (ed, ev, ea, eb, ei, e1) (immediates op t m x pc w h)

registers : (op : Op) → is_register op ≡ true → (m : Seen) (x : List ℕ) (pc w : ℕ) → is_of_row w (row_of op) ≡ true
    → execute_word m x pc w ≡ computed m x pc (bits_at 11 7 w) (result_of op pc (slice_index x (bits_at 19 15 w)) (slice_index x (bits_at 24 20 w)) (immediate Register w))
registers Add t m x pc w h = known m x pc w Add h
registers Sub t m x pc w h = known m x pc w Sub h
registers Sll t m x pc w h = known m x pc w Sll h
registers Slt t m x pc w h = known m x pc w Slt h
registers Sltu t m x pc w h = known m x pc w Sltu h
registers Xor t m x pc w h = known m x pc w Xor h
registers Srl t m x pc w h = known m x pc w Srl h
registers Sra t m x pc w h = known m x pc w Sra h
registers Or t m x pc w h = known m x pc w Or h
registers And t m x pc w h = known m x pc w And h
registers Addw t m x pc w h = known m x pc w Addw h
registers Subw t m x pc w h = known m x pc w Subw h
registers Sllw t m x pc w h = known m x pc w Sllw h
registers Srlw t m x pc w h = known m x pc w Srlw h
registers Sraw t m x pc w h = known m x pc w Sraw h
registers Mul t m x pc w h = known m x pc w Mul h
registers Mulh t m x pc w h = known m x pc w Mulh h
registers Mulhsu t m x pc w h = known m x pc w Mulhsu h
registers Mulhu t m x pc w h = known m x pc w Mulhu h
registers Div t m x pc w h = known m x pc w Div h
registers Divu t m x pc w h = known m x pc w Divu h
registers Rem t m x pc w h = known m x pc w Rem h
registers Remu t m x pc w h = known m x pc w Remu h
registers Mulw t m x pc w h = known m x pc w Mulw h
registers Divw t m x pc w h = known m x pc w Divw h
registers Divuw t m x pc w h = known m x pc w Divuw h
registers Remw t m x pc w h = known m x pc w Remw h
registers Remuw t m x pc w h = known m x pc w Remuw h
registers _ t m x pc w h = absurd (false≢true t)

pub register_is : (op : Op) (m : Seen) (x : List ℕ) (pc w r1 r2 rd a b value : ℕ) (imm : ℤ) → is_register op ≡ true → is_of_row w (row_of op) ≡ true
    → r1 ≡ bits_at 19 15 w → r2 ≡ bits_at 24 20 w → a ≡ slice_index x r1 → b ≡ slice_index x r2 → imm ≡ immediate Register w → value ≡ result_of op pc a b imm → rd ≡ bits_at 11 7 w
    → execute_word m x pc w ≡ computed m x pc rd value
register_is op m x pc w r1 r2 rd a b value imm t h e1 e2 ea eb ei ev ed = rw (ed, ev, ea, eb, ei, e1, e2) (registers op t m x pc w h)

shifts : (op : Op) → is_shift op ≡ true → (m : Seen) (x : List ℕ) (pc w : ℕ) → is_of_row w (row_of op) ≡ true
    → execute_word m x pc w ≡ computed m x pc (bits_at 11 7 w) (result_of op pc (slice_index x (bits_at 19 15 w)) (slice_index x 0) (immediate Shift w))
shifts Slli t m x pc w h = known m x pc w Slli h
shifts Srli t m x pc w h = known m x pc w Srli h
shifts Srai t m x pc w h = known m x pc w Srai h
shifts _ t m x pc w h = absurd (false≢true t)

pub shift_is : (op : Op) (m : Seen) (x : List ℕ) (pc w r1 rd a b value : ℕ) (imm : ℤ) → is_shift op ≡ true → is_of_row w (row_of op) ≡ true
    → r1 ≡ bits_at 19 15 w → a ≡ slice_index x r1 → b ≡ slice_index x 0 → imm ≡ immediate Shift w → value ≡ result_of op pc a b imm → rd ≡ bits_at 11 7 w
    → execute_word m x pc w ≡ computed m x pc rd value
shift_is op m x pc w r1 rd a b value imm t h e1 ea eb ei ev ed = rw (ed, ev, ea, eb, ei, e1) (shifts op t m x pc w h)

shift_words : (op : Op) → is_shift_word op ≡ true → (m : Seen) (x : List ℕ) (pc w : ℕ) → is_of_row w (row_of op) ≡ true
    → execute_word m x pc w ≡ computed m x pc (bits_at 11 7 w) (result_of op pc (slice_index x (bits_at 19 15 w)) (slice_index x 0) (immediate ShiftWord w))
shift_words Slliw t m x pc w h = known m x pc w Slliw h
shift_words Srliw t m x pc w h = known m x pc w Srliw h
shift_words Sraiw t m x pc w h = known m x pc w Sraiw h
shift_words _ t m x pc w h = absurd (false≢true t)

pub shift_word_is : (op : Op) (m : Seen) (x : List ℕ) (pc w r1 rd a b value : ℕ) (imm : ℤ) → is_shift_word op ≡ true → is_of_row w (row_of op) ≡ true
    → r1 ≡ bits_at 19 15 w → a ≡ slice_index x r1 → b ≡ slice_index x 0 → imm ≡ immediate ShiftWord w → value ≡ result_of op pc a b imm → rd ≡ bits_at 11 7 w
    → execute_word m x pc w ≡ computed m x pc rd value
shift_word_is op m x pc w r1 rd a b value imm t h e1 ea eb ei ev ed = rw (ed, ev, ea, eb, ei, e1) (shift_words op t m x pc w h)

uppers : (op : Op) → is_upper op ≡ true → (m : Seen) (x : List ℕ) (pc w : ℕ) → is_of_row w (row_of op) ≡ true
    → execute_word m x pc w ≡ computed m x pc (bits_at 11 7 w) (result_of op pc (slice_index x 0) (slice_index x 0) (immediate Upper w))
uppers Lui t m x pc w h = known m x pc w Lui h
uppers Auipc t m x pc w h = known m x pc w Auipc h
uppers _ t m x pc w h = absurd (false≢true t)

pub upper_is : (op : Op) (m : Seen) (x : List ℕ) (pc w rd a b value : ℕ) (imm : ℤ) → is_upper op ≡ true → is_of_row w (row_of op) ≡ true
    → a ≡ slice_index x 0 → b ≡ slice_index x 0 → imm ≡ immediate Upper w → value ≡ result_of op pc a b imm → rd ≡ bits_at 11 7 w
    → execute_word m x pc w ≡ computed m x pc rd value
upper_is op m x pc w rd a b value imm t h ea eb ei ev ed = rw (ed, ev, ea, eb, ei) (uppers op t m x pc w h)

abbrev does_load : Access → Bool
does_load (Loads n s) = true
does_load _ = false

abbrev does_store : Access → Bool
does_store (Stores n) = true
does_store _ = false

loads : (op : Op) (n : ℕ) (s : Bool) → access_of op ≡ Loads n s → (m : Seen) (x : List ℕ) (pc w : ℕ) → is_of_row w (row_of op) ≡ true
    → execute_word m x pc w ≡ accessed m x pc (fields_at op Immediate w) (slice_index x (bits_at 19 15 w)) (slice_index x 0) (access_of op)
loads Lb n s e m x pc w h = known m x pc w Lb h
loads Lh n s e m x pc w h = known m x pc w Lh h
loads Lw n s e m x pc w h = known m x pc w Lw h
loads Ld n s e m x pc w h = known m x pc w Ld h
loads Lbu n s e m x pc w h = known m x pc w Lbu h
loads Lhu n s e m x pc w h = known m x pc w Lhu h
loads Lwu n s e m x pc w h = known m x pc w Lwu h
loads _ n s e m x pc w h = absurd (false≢true (ap does_load e))

pub load_is : (op : Op) (m : Seen) (x : List ℕ) (pc w r1 rd a addr n : ℕ) (s : Bool) (imm : ℤ) → access_of op ≡ Loads n s → is_of_row w (row_of op) ≡ true
    → r1 ≡ bits_at 19 15 w → a ≡ slice_index x r1 → imm ≡ immediate Immediate w → addr ≡ wrap (a + wrap_ℤ imm) → rd ≡ bits_at 11 7 w
    → execute_word m x pc w ≡ loaded m x pc rd addr n s
load_is op m x pc w r1 rd a addr n s imm e h e1 ea ei eaddr ed =
    rw (ed, eaddr, ea, ei, e1) (loads op n s e m x pc w h ∙ ap (accessed m x pc (fields_at op Immediate w) (slice_index x (bits_at 19 15 w)) (slice_index x 0)) e)

stores : (op : Op) (n : ℕ) → access_of op ≡ Stores n → (m : Seen) (x : List ℕ) (pc w : ℕ) → is_of_row w (row_of op) ≡ true
    → execute_word m x pc w ≡ accessed m x pc (fields_at op StoreForm w) (slice_index x (bits_at 19 15 w)) (slice_index x (bits_at 24 20 w)) (access_of op)
stores Sb n e m x pc w h = known m x pc w Sb h
stores Sh n e m x pc w h = known m x pc w Sh h
stores Sw n e m x pc w h = known m x pc w Sw h
stores Sd n e m x pc w h = known m x pc w Sd h
stores _ n e m x pc w h = absurd (false≢true (ap does_store e))

pub store_is : (op : Op) (m : Seen) (x : List ℕ) (pc w r1 r2 a b addr n : ℕ) (imm : ℤ) → access_of op ≡ Stores n → is_of_row w (row_of op) ≡ true
    → r1 ≡ bits_at 19 15 w → r2 ≡ bits_at 24 20 w → a ≡ slice_index x r1 → b ≡ slice_index x r2 → imm ≡ immediate StoreForm w → addr ≡ wrap (a + wrap_ℤ imm)
    → execute_word m x pc w ≡ stored m x pc addr n b
store_is op m x pc w r1 r2 a b addr n imm e h e1 e2 ea eb ei eaddr =
    rw (eaddr, ea, eb, ei, e1, e2)
    (stores op n e m x pc w h ∙ ap (accessed m x pc (fields_at op StoreForm w) (slice_index x (bits_at 19 15 w)) (slice_index x (bits_at 24 20 w))) e)

branches : (op : Op) → is_branch op ≡ true → (m : Seen) (x : List ℕ) (pc w : ℕ) → is_of_row w (row_of op) ≡ true
    → execute_word m x pc w
    ≡ (if is_taken op (slice_index x (bits_at 19 15 w)) (slice_index x (bits_at 24 20 w))
    then jumped m x (aim_of op pc (slice_index x (bits_at 19 15 w)) (immediate BranchForm w)) 0 0 else computed m x pc 0 0)
branches Beq t m x pc w h = known m x pc w Beq h
branches Bne t m x pc w h = known m x pc w Bne h
branches Blt t m x pc w h = known m x pc w Blt h
branches Bge t m x pc w h = known m x pc w Bge h
branches Bltu t m x pc w h = known m x pc w Bltu h
branches Bgeu t m x pc w h = known m x pc w Bgeu h
branches _ t m x pc w h = absurd (false≢true t)

pub branch_is : (op : Op) (m : Seen) (x : List ℕ) (pc w r1 r2 a b aim : ℕ) (taken : Bool) (imm : ℤ) → is_branch op ≡ true → is_of_row w (row_of op) ≡ true
    → r1 ≡ bits_at 19 15 w → r2 ≡ bits_at 24 20 w → a ≡ slice_index x r1 → b ≡ slice_index x r2 → imm ≡ immediate BranchForm w
    → taken ≡ is_taken op a b → aim ≡ aim_of op pc a imm
    → execute_word m x pc w ≡ (if taken then jumped m x aim 0 0 else computed m x pc 0 0)
branch_is op m x pc w r1 r2 a b aim taken imm t h e1 e2 ea eb ei et eaim =
    rw (et, eaim, ea, eb, ei, e1, e2) (branches op t m x pc w h)

pub jal_is : (m : Seen) (x : List ℕ) (pc w rd aim value : ℕ) (imm : ℤ) → is_of_row w (row_of Jal) ≡ true
    → imm ≡ immediate Jump w → aim ≡ aim_of Jal pc 0 imm → value ≡ result_of Jal pc 0 0 imm → rd ≡ bits_at 11 7 w
    → execute_word m x pc w ≡ jumped m x aim rd value
jal_is m x pc w rd aim value imm h ei eaim ev ed = rw (ed, eaim, ev, ei) (known m x pc w Jal h)

pub jalr_is : (m : Seen) (x : List ℕ) (pc w r1 rd a aim value : ℕ) (imm : ℤ) → is_of_row w (row_of Jalr) ≡ true
    → r1 ≡ bits_at 19 15 w → a ≡ slice_index x r1 → imm ≡ immediate Immediate w → aim ≡ aim_of Jalr pc a imm → value ≡ result_of Jalr pc a 0 imm → rd ≡ bits_at 11 7 w
    → execute_word m x pc w ≡ jumped m x aim rd value
jalr_is m x pc w r1 rd a aim value imm h e1 ea ei eaim ev ed = rw (ed, eaim, ev, ea, ei, e1) (known m x pc w Jalr h)

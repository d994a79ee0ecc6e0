-- `decode` and `encode` turn each other round.
use Rattle.std.proofs.Common.{◌≡◌, ℕ, ◌^◌, ◌<◌, Bool, true, false, ap, sym, ◌∙◌, refl, subst, arith}
use Rattle.std.specs.Prelude.{ℤ, pos, Option, Some, None, find, option_map, List, [], ◌∷◌, cond}
use Rattle.std.proofs.lemmas.Bool.{and_parts, eqb-true}
use Rattle.std.proofs.lemmas.Option.{cond_some, none-some}
use Rattle.cell_num.specs.Bits.{modulo_2}
use Rattle.cell_isa.specs.declared.insn.Insn.{Insn}
use Rattle.cell_isa.specs.declared.insn.Op.{Op}
use Rattle.cell_isa.specs.declared.format.Format.{Format}
use Rattle.cell_isa.specs.declared.format.Format.TheVariants.{Upper, Jump, Immediate, Branch, Store, Register, Shift, ShiftWord}
use Rattle.cell_isa.specs.declared.table.Row.{Row}
use Rattle.cell_isa.specs.declared.table.Row.TheVariants.{Word, Fields}
use Rattle.cell_isa.specs.Table.{row_of, ops, is_of_row, operation_of}
use Rattle.cell_isa.specs.Instruction.{instruction, fields_at, decode, are_unused, is_within, have_room, word_with, word_by_row, encode}
use Rattle.cell_isa.proofs.Signs.{eq_true, both, natural, lt_of}
use Rattle.cell_isa.proofs.Formats.{again_Upper, again_Jump, again_Immediate, again_Branch, again_Store, again_Register, again_Shift, again_ShiftWord, has_room}
use Rattle.cell_isa.proofs.Fields.{Gives, gives_Upper, gives_Jump, gives_Immediate, gives_Branch, gives_Store, gives_Register, gives_Shift, gives_ShiftWord, made}
use Rattle.cell_isa.specs.Sound.{is_clean, is_sound}
use Rattle.cell_isa.proofs.Rows.{sound, first}

-- what a sound row says of its numbers
record Numbers (format : Format) (o n3 n7 : ℕ) : Type 0 where
  opcode : o < 128
  funct3 : n3 < 8
  funct7 : n7 < 128
  clean : is_clean format n3 n7 ≡ true

numbers : (format : Format) (o n3 n7 : ℕ) → is_sound (Fields format o n3 n7) ≡ true → Numbers format o n3 n7
numbers format o n3 n7 h =
    let p = and_parts _ _ h in
    let q = and_parts _ _ p.0 in
    let r = and_parts _ _ q.0 in
    record { opcode = lt_of o 128 r.0; funct3 = lt_of n3 8 r.1; funct7 = lt_of n7 128 q.1; clean = p.1 }

some_if : (b : Bool) (x w : ℕ) → b ≡ true → x ≡ w → cond b (Some x) None ≡ Some w
some_if b x w h e = rw (h, e) refl

-- a word of a row is the word of what it gives
again : (w : ℕ) (op : Op) (format : Format) (o n3 n7 : ℕ) → w < 2 ^ 32 → Numbers format o n3 n7 → is_of_row w (Fields format o n3 n7) ≡ true
    → word_with (fields_at op format w) format o n3 n7 ≡ w
again w op Upper o n3 n7 h s t =
    let p = and_parts _ _ t in
    let q = and_parts _ _ s.clean in
    again_Upper w o n3 n7 op h (eqb-true _ _ p.0) (eqb-true _ _ q.0) (eqb-true _ _ q.1)
again w op Jump o n3 n7 h s t =
    let p = and_parts _ _ t in
    let q = and_parts _ _ s.clean in
    again_Jump w o n3 n7 op h (eqb-true _ _ p.0) (eqb-true _ _ q.0) (eqb-true _ _ q.1)
again w op Immediate o n3 n7 h s t =
    let p = and_parts _ _ t in
    again_Immediate w o n3 n7 op h (eqb-true _ _ p.0) (eqb-true _ _ p.1) (eqb-true _ _ s.clean)
again w op Branch o n3 n7 h s t =
    let p = and_parts _ _ t in
    again_Branch w o n3 n7 op h (eqb-true _ _ p.0) (eqb-true _ _ p.1) (eqb-true _ _ s.clean)
again w op Store o n3 n7 h s t =
    let p = and_parts _ _ t in
    again_Store w o n3 n7 op h (eqb-true _ _ p.0) (eqb-true _ _ p.1) (eqb-true _ _ s.clean)
again w op Register o n3 n7 h s t =
    let p = and_parts _ _ t in
    let q = and_parts _ _ p.1 in
    again_Register w o n3 n7 op h (eqb-true _ _ p.0) (eqb-true _ _ q.0) (eqb-true _ _ q.1)
again w op Shift o n3 n7 h s t =
    let p = and_parts _ _ t in
    let q = and_parts _ _ p.1 in
    again_Shift w o n3 n7 op h (eqb-true _ _ p.0) (eqb-true _ _ q.0) (eqb-true _ _ q.1) (eqb-true _ _ s.clean)
again w op ShiftWord o n3 n7 h s t =
    let p = and_parts _ _ t in
    let q = and_parts _ _ p.1 in
    again_ShiftWord w o n3 n7 op h (eqb-true _ _ p.0) (eqb-true _ _ q.0) (eqb-true _ _ q.1)

there : (w : ℕ) (op : Op) (r : Row) → w < 2 ^ 32 → is_sound r ≡ true → is_of_row w r ≡ true → word_by_row (instruction w op r) r ≡ Some w
there w op (Word own) h s t = ap Some (sym (eqb-true w own t))
there w op (Fields format o n3 n7) h s t =
    some_if (have_room (fields_at op format w) format) (word_with (fields_at op format w) format o n3 n7) w
    (has_room op format w) (again w op format o n3 n7 h (numbers format o n3 n7 s) t)

op_of : (w : ℕ) (op : Op) (r : Row) → (instruction w op r).op ≡ op
op_of w op (Word own) = refl
op_of w op (Fields format o n3 n7) = refl

there_again : (w : ℕ) (op : Op) → w < 2 ^ 32 → is_of_row w (row_of op) ≡ true → encode (instruction w op (row_of op)) ≡ Some w
there_again w op h t =
    subst (λ o. word_by_row (instruction w op (row_of op)) (row_of o) ≡ Some w) (sym (op_of w op (row_of op)))
    (there w op (row_of op) h (sound op) t)

-- the word of an instruction gives the instruction
gives : (insn : Insn) (w : ℕ) (format : Format) (o n3 n7 : ℕ) → Numbers format o n3 n7 → have_room insn format ≡ true
    → w ≡ word_with insn format o n3 n7 → Gives w insn format o n3 n7
gives insn w Upper o n3 n7 s h e =
    let q = and_parts _ _ s.clean in gives_Upper insn w o n3 n7 s.opcode (eqb-true _ _ q.0) (eqb-true _ _ q.1) h e
gives insn w Jump o n3 n7 s h e =
    let q = and_parts _ _ s.clean in gives_Jump insn w o n3 n7 s.opcode (eqb-true _ _ q.0) (eqb-true _ _ q.1) h e
gives insn w Immediate o n3 n7 s h e = gives_Immediate insn w o n3 n7 s.opcode s.funct3 (eqb-true _ _ s.clean) h e
gives insn w Branch o n3 n7 s h e = gives_Branch insn w o n3 n7 s.opcode s.funct3 (eqb-true _ _ s.clean) h e
gives insn w Store o n3 n7 s h e = gives_Store insn w o n3 n7 s.opcode s.funct3 (eqb-true _ _ s.clean) h e
gives insn w Register o n3 n7 s h e = gives_Register insn w o n3 n7 s.opcode s.funct3 s.funct7 h e
gives insn w Shift o n3 n7 s h e = gives_Shift insn w o n3 n7 s.opcode s.funct3 s.funct7 (eqb-true _ _ s.clean) h e
gives insn w ShiftWord o n3 n7 s h e = gives_ShiftWord insn w o n3 n7 s.opcode s.funct3 s.funct7 h e

none_is_0 : (z : ℤ) → is_within (pos 0) (pos 0) z ≡ true → pos 0 ≡ z
none_is_0 z h =
    let n = natural z 0 (omega arith) h in
    let e : 0 ≡ modulo_2 32 z = omega (arith, n.1) in
    ap pos e ∙ n.0

-- an instruction that uses no field
alone_is : (insn : Insn) (w own : ℕ) → are_unused insn ≡ true → instruction w insn.op (Word own) ≡ insn
alone_is insn w own h =
    let p = and_parts _ _ h in
    let q = and_parts _ _ p.0 in
    let r = and_parts _ _ q.0 in
    made insn 0 0 0 (pos 0) (sym (eqb-true _ _ r.0)) (sym (eqb-true _ _ r.1)) (sym (eqb-true _ _ q.1)) (none_is_0 insn.imm p.1)

back : (insn : Insn) (w : ℕ) (r : Row) → is_sound r ≡ true → word_by_row insn r ≡ Some w
    → (is_of_row w r ≡ true) × (instruction w insn.op r ≡ insn)
back insn w (Word own) s e =
    let p = cond_some (are_unused insn) own w e in
    (eq_true w own (sym p.1), alone_is insn w own p.0)
back insn w (Fields format o n3 n7) s e =
    let p = cond_some (have_room insn format) (word_with insn format o n3 n7) w e in
    let g = gives insn w format o n3 n7 (numbers format o n3 n7 s) p.0 (sym p.1) in
    (both _ _ (eq_true _ _ g.opcode) g.functions, g.fields)

-- the first that passes does pass
find_passes_by : (p : Op → Bool) (y : Op) (ys : List Op) (x : Op) (b : Bool) → p y ≡ b → cond b (Some y) (find p ys) ≡ Some x
    → ((z : Op) → find p ys ≡ Some z → p z ≡ true) → p x ≡ true
find_passes_by p y ys x true e h next = subst (λ z. p z ≡ true) (cond_some true y x h).1 e
find_passes_by p y ys x false e h next = next x h

find_passes : (p : Op → Bool) (xs : List Op) (x : Op) → find p xs ≡ Some x → p x ≡ true
find_passes p [] x h = absurd (none-some x h)
find_passes p (y ∷ ys) x h = find_passes_by p y ys x (p y) refl h (find_passes p ys)

mapped : (f : Op → Insn) (o : Option Op) (i : Insn) → option_map f o ≡ Some i → (op : Op) × (o ≡ Some op) × (f op ≡ i)
mapped f None i h = absurd (none-some i h)
mapped f (Some op) i h = (op, refl, (cond_some true (f op) i h).1)

pub encode_decoded : (w : ℕ) (insn : Insn) → w < 2 ^ 32 → decode w ≡ Some insn → encode insn ≡ Some w
unfolding decode
encode_decoded w insn h e =
    let m = mapped (λ op. instruction w op (row_of op)) (operation_of w) insn e in
    let t = find_passes (λ op. is_of_row w (row_of op)) ops m.0 m.1 in
    subst (λ i. encode i ≡ Some w) m.2 (there_again w m.0 h t)

pub decode_encoded : (w : ℕ) (insn : Insn) → encode insn ≡ Some w → decode w ≡ Some insn
unfolding decode
decode_encoded w insn e =
    let b = back insn w (row_of insn.op) (sound insn.op) e in
    let f = first insn.op w b.0 in
    ap (option_map (λ op. instruction w op (row_of op))) f ∙ ap Some b.1

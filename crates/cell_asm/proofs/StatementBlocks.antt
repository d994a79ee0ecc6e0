-- The bytes of instructions and of numbers in lists, and the entries for them, from their operands.
--     mnemonic_good text                            the row that is found is a good one
--     instruction_good row os, numbers_good w os    good bytes, with names of the operands
use Rattle.std.specs.Prelude.{◌≡◌, ◌≤◌, ◌<◌, ◌+◌, ◌%◌, ◌^◌, ◌||◌, ◌∷◌, ◌++◌, if◌then◌else◌, ◌&&◌}
use Rattle.cell_asm.proofs.Facts.{Result, ℕ, Bool, true, false, not, List, [], length, ℤ, pos, negsuc, Ok, Err, Some, None, inl, inr, refl, sym, subst, ap, ◌∙◌, true≢false, append-nil, cond, arith, Option, nat_le, int_le, FitsSigned, flat_map, find, option_map, bytes_eq, list_any, list_all}
use Rattle.cell_asm.proofs.Facts.{option_map_or, w64, and_parts, or_from, or-false, nat_tests, flat_map-append, RelKind, PcrelHi20, PcrelLo12I, PcrelLo12S, Op, AsmKind, Then, Expression, ExpressionName as Name, Sum, Difference, Modifier, Whole, Hi, Lo, PcrelHi, PcrelLo, Immediate, Number}
use Rattle.cell_asm.proofs.Facts.{ImmediatePart as Part, Operand, OperandValue as Value, OperandMemory as Memory, Form, Address, Slot, Rd, Rs1, Rs2, Fields, Width, Byte, Half, WidthWord as Word, Quad, Content, Code, Mark, Block, Piece, Fix, TargetMade as Made, Field, Statement, Bytes, width_of}
use Rattle.cell_asm.proofs.Facts.{is_instruction, is_upper_pcrel, with_value, marks_at, appended, empty, is_made, target_names, statement_names, is_bare, fix, within, entry, fitting, kind_of, plain, under, field, value, Row, row_of, mnemonics, mnemonic, unfilled, put, miscounted, filled, made_fix}
use Rattle.cell_asm.proofs.Facts.{block, instruction, layout_of, stored, datum, numbers, In, all-In, any-Has, GotHi20, GotPcrelHi}
use Rattle.cell_asm.specs.declared.kind.AsmKind.TheVariants as faults
use Rattle.cell_asm.specs.declared.mnemonic.Slot.TheVariants as slots
use Rattle.cell_asm.specs.Wanted.{register, memory}
use Rattle.cell_asm.specs.Statements as statements
use Rattle.cell_asm.proofs.ListLemmas.{itself, le_of}
use Rattle.cell_asm.proofs.NamesFit.{Any, Yields, yields_value, yields_joined, yields_any, yields_weaker, yields_gathered, Finds, IsNamed, none_named, IsPart, part_in, expression_names, immediate_names, operand_names, all_names}
use Rattle.cell_asm.proofs.GoodBlocks.{is_code, any_upper, lo12_code, upper_code, IsGoodFix, AreStacking, InFours, IsWithin, AreWithin, IsSound, IsGoodStatement, IsGoodPiece, one_there, both_there, piece_sound, empty_sound, is_unmoved}

-- ENTRIES

small : (m : ℕ) → nat_le m 0x7fffffffffffffff ≡ true → m < 2 ^ 63
small m e = grind (arith, nat_tests)

zero_fits : FitsSigned w64 (pos 0)
zero_fits = record { sfits = small 0 refl }

within_fits : (n : ℤ) → (int_le (negsuc 0x7fffffffffffffff) n && int_le n (pos 0x7fffffffffffffff)) ≡ true → FitsSigned w64 n
within_fits (pos m) e = record { sfits = small m e }
within_fits (negsuc m) e = record { sfits = small m (and_parts (nat_le m 0x7fffffffffffffff) true e).0 }

unmoved_bare : (kind : RelKind) → is_unmoved kind ≡ true → is_bare kind ≡ true
unmoved_bare PcrelLo12I e = refl
unmoved_bare PcrelLo12S e = refl
unmoved_bare GotHi20 e = refl
unmoved_bare _ e = absurd cc

-- a kind whose field is within so many bytes of instructions, or of numbers
abbrev is_fit : Content → ℕ → RelKind → Bool
is_fit content width kind = nat_le (width_of kind) width && (if is_code content then is_instruction kind else not (is_instruction kind))

record IsFit (content : Content) (width : ℕ) (kind : RelKind) : Type 0 where
  fits : width_of kind ≤ width
  code : is_instruction kind ≡ is_code content

fit_of : (content : Content) (width : ℕ) (kind : RelKind) → is_fit content width kind ≡ true → IsFit content width kind
fit_of content width kind e =
    let code : Bool = if is_code content then is_instruction kind else not (is_instruction kind) in
    let q = and_parts (nat_le (width_of kind) width) code e in
    record { fits = le_of (width_of kind) width q.0; code = same (is_instruction kind) (is_code content) q.1 }
  where
    same : (a b : Bool) → (if b then a else not a) ≡ true → a ≡ b
    same a true e = e
    same true false e = absurd (true≢false (sym e))
    same false false e = refl

-- entries for these names, of kinds that pass the test
module _ (test : RelKind → Bool) where
  record IsGiven (ns : List (List ℕ)) (f : Fix) : Type 0 where
    kind : test f.kind ≡ true
    addend : FitsSigned w64 f.addend
    plain : is_unmoved f.kind ≡ true → f.addend ≡ pos 0
    own : is_made f.target ≡ false
    named : target_names f.target ≡ ns

  fix_given : (kind : RelKind) (n : List ℕ) (by : ℤ) → test kind ≡ true → FitsSigned w64 by → (is_unmoved kind ≡ true → by ≡ pos 0) → IsGiven (n ∷ []) (fix kind n by)
  fix_given kind n by t near low = record { kind = t; addend = near; plain = low; own = refl; named = refl }

  sum_given : (kind : RelKind) (n : List ℕ) (by : ℤ) (b : Bool) → (int_le (negsuc 0x7fffffffffffffff) by && int_le by (pos 0x7fffffffffffffff)) ≡ b → is_bare kind ≡ false → test kind ≡ true
      → Yields (IsGiven (n ∷ [])) (with_value (fix kind n) (if b then Ok by else Err faults.Range))
  sum_given kind n by true e bare t = fix_given kind n by t (within_fits by e) (λ low. absurd (true≢false (sym (unmoved_bare kind low) ∙ bare)))
  sum_given kind n by false e bare t = tt

  moved_given : (kind : RelKind) (n : List ℕ) (by : ℤ) (b : Bool) → is_bare kind ≡ b → test kind ≡ true
      → Yields (IsGiven (n ∷ [])) (if b then Err faults.Operand else with_value (fix kind n) (within (negsuc 0x7fffffffffffffff) (pos 0x7fffffffffffffff) by))
  moved_given kind n by true e t = tt
  moved_given kind n by false e t = sum_given kind n by (int_le (negsuc 0x7fffffffffffffff) by && int_le by (pos 0x7fffffffffffffff)) refl e t

  entry_given : (o : Option RelKind) (e : Expression) → option_map_or test o true ≡ true → Yields (IsGiven (expression_names e)) (entry o e)
  entry_given None e t = tt
  entry_given (Some kind) (Name n) t = fix_given kind n (pos 0) t zero_fits (λ low. refl)
  entry_given (Some kind) (Sum n by) t = moved_given kind n by (is_bare kind) refl t
  entry_given (Some kind) (Difference a b) t = tt

  given_good : (content : Content) (width : ℕ) (ns : List (List ℕ)) (f : Fix) → IsFit content width f.kind → IsGiven ns f → IsGoodFix content f
  given_good content width ns f k g = record { addend = g.addend; code = k.code; plain = g.plain; made = λ e. absurd (true≢false (sym e ∙ g.own)) }

-- THE ROWS OF THE TABLE

-- a label is made for the second instruction
abbrev makes : Option Then → Bool
makes None = false
makes (Some t) = t.made

-- which kinds the operands' entry may have: a label is made at %pcrel_hi
abbrev is_first : Option Then → RelKind → Bool
is_first None kind = is_fit Code 4 kind
is_first (Some t) kind = if t.made then is_upper_pcrel kind else is_fit Code 8 kind

-- the form that no number has
abbrev is_address : Form → Bool
is_address Address = true
is_address _ = false

abbrev modifiers : List Modifier
modifiers = Whole ∷ Hi ∷ Lo ∷ PcrelHi ∷ PcrelLo ∷ GotPcrelHi ∷ []

abbrev kinds_fit : Option Then → Form → Bool
kinds_fit t form = list_all (λ m. option_map_or (is_first t) (kind_of form m) true) modifiers

abbrev is_good_form : Option Then → Form → Bool
is_good_form t form = kinds_fit t form && (not (makes t) || is_address form)

abbrev has_form : Slot → Bool
has_form (slots.Value form) = true
has_form (slots.Memory form) = true
has_form _ = false

abbrev is_good_slot : Option Then → Slot → Bool
is_good_slot t (slots.Value form) = is_good_form t form
is_good_slot t (slots.Memory form) = is_good_form t form
is_good_slot t _ = true

abbrev is_good_row : Row → Bool
is_good_row row = list_all (is_good_slot row.2.then) row.1 && (not (makes row.2.then) || list_any has_form row.1)

-- what is found in a table passes a test that each row passes
row_passes : {A : Type 0} (test : A → Bool) (rows : List (List ℕ × A)) (text : List ℕ) → list_all (λ row. test row.1) rows ≡ true → Finds (λ a. test a ≡ true) (row_of rows text)
row_passes test [] text e = tt
row_passes test (row ∷ rows) text e = go (bytes_eq text row.0) (and_parts (test row.1) (list_all (λ r. test r.1) rows) e) (row_passes test rows text)
  where
    go : (b : Bool) → (test row.1 ≡ true) × (list_all (λ r. test r.1) rows ≡ true) → (list_all (λ r. test r.1) rows ≡ true → Finds (λ a. test a ≡ true) (row_of rows text))
        → Finds (λ a. test a ≡ true) (option_map (λ r. r.1) (cond b (Some row) (find (λ r. bytes_eq text r.0) rows)))
    go true t f = t.0
    go false t f = f t.1

abbrev pub IsGoodRow : Row → Type 0
IsGoodRow row = is_good_row row ≡ true

pub mnemonic_good : (text : List ℕ) → Finds IsGoodRow (mnemonic text)
mnemonic_good text = row_passes is_good_row mnemonics text refl

-- FIELDS

modifier_in : (m : Modifier) → In m modifiers
modifier_in Whole = inl refl
modifier_in Hi = inr (inl refl)
modifier_in Lo = inr (inr (inl refl))
modifier_in PcrelHi = inr (inr (inr (inl refl)))
modifier_in PcrelLo = inr (inr (inr (inr (inl refl))))
modifier_in GotPcrelHi = inr (inr (inr (inr (inr (inl refl)))))

number_good : (b : Bool) (form : Form) (n : ℤ) → (not b || is_address form) ≡ true → Yields (λ z. b ≡ false) (fitting form n)
number_good b Address n e = tt
number_good false form n e = yields_weaker Any (λ z. false ≡ false) (fitting form n) (λ z u. refl) (yields_any (fitting form n))
number_good true form n e = absurd (true≢false (sym e))

module _ (t : Option Then) (all : List (List ℕ)) where
  -- the operands' entry, which there is where a label is made
  abbrev IsRowFix : Option Fix → Type 0
  IsRowFix None = makes t ≡ false
  IsRowFix (Some f) = (ns : List (List ℕ)) × IsGiven (is_first t) ns f × IsPart ns all

  abbrev IsRowField : Field → Type 0
  IsRowField x = IsRowFix x.fix

  field_good : (form : Form) (i : Immediate) → is_good_form t form ≡ true → IsPart (immediate_names i) all → Yields IsRowField (field form i)
  field_good form (Number n) e p = yields_value (λ (z : ℤ). makes t ≡ false) IsRowField plain (fitting form n) (λ z g. g) (number_good (makes t) form n (and_parts (kinds_fit t form) (not (makes t) || is_address form) e).1)
  field_good form (Part m x) e p =
      yields_value (IsGiven (is_first t) (expression_names x)) IsRowField under (entry (kind_of form m) x) (λ f g. (expression_names x, g, p))
      (entry_given (is_first t) (kind_of form m) x (all-In (λ k. option_map_or (is_first t) (kind_of form k) true) modifiers (and_parts (kinds_fit t form) (not (makes t) || is_address form) e).0 m (modifier_in m)))

  value_good : (form : Form) (o : Operand) → is_good_form t form ≡ true → IsPart (operand_names o) all → Yields IsRowField (value form o)
  value_good form (Value i) e p = field_good form i e p
  value_good form (Memory i base) e p = tt

  memory_good : (form : Form) (o : Operand) → is_good_form t form ≡ true → IsPart (operand_names o) all → Yields (λ m. IsRowField m.0) (memory form o)
  memory_good form (Memory i base) e p = yields_value IsRowField (λ (m : Field × ℕ). IsRowField m.0) (λ x. (x, base)) (field form i) (λ x g. g) (field_good form i e p)
  memory_good form (Value i) e p = tt

  abbrev Holds : Result Fields AsmKind → Type 0
  Holds r = Yields (λ f. IsRowField f.field) r

  -- so it is behind an operand that puts an immediate, and behind another if it is so before
  put_holds : (r : Result Fields AsmKind) (slot : Slot) (o : Operand) → is_good_slot t slot ≡ true → IsPart (operand_names o) all → (has_form slot ≡ false → Holds r) → Holds (put r slot o)
  put_holds r Rd o e p h = yields_joined (λ f. IsRowField f.field) Any (λ f. IsRowField f.field) (λ f n. record f { rd = n }) r (register o) (λ f n g u. g) (h refl) (yields_any (register o))
  put_holds r Rs1 o e p h = yields_joined (λ f. IsRowField f.field) Any (λ f. IsRowField f.field) (λ f n. record f { rs1 = n }) r (register o) (λ f n g u. g) (h refl) (yields_any (register o))
  put_holds r Rs2 o e p h = yields_joined (λ f. IsRowField f.field) Any (λ f. IsRowField f.field) (λ f n. record f { rs2 = n }) r (register o) (λ f n g u. g) (h refl) (yields_any (register o))
  put_holds r (slots.Value form) o e p h = yields_joined Any IsRowField (λ (f : Fields). IsRowField f.field) (λ f x. record f { field = x }) r (value form o) (λ f x u g. g) (yields_any r) (value_good form o e p)
  put_holds r (slots.Memory form) o e p h =
      yields_joined Any (λ (m : Field × ℕ). IsRowField m.0) (λ (f : Fields). IsRowField f.field) (λ f m. record f { rs1 = m.1; field = m.0 }) r (memory form o) (λ f m u g. g) (yields_any r) (memory_good form o e p)

  miscounted_holds : (r : Result Fields AsmKind) → Holds (miscounted r)
  miscounted_holds (Ok f) = tt
  miscounted_holds (Err k) = tt

  filled_holds : (r : Result Fields AsmKind) (ss : List Slot) (os : List Operand) → ((s : Slot) → In s ss → is_good_slot t s ≡ true) → ((o : Operand) → In o os → IsPart (operand_names o) all) → (list_any has_form ss ≡ false → Holds r)
      → Holds (filled r ss os)
  filled_holds r [] [] g p h = h refl
  filled_holds r [] (o ∷ os) g p h = miscounted_holds r
  filled_holds r (s ∷ ss) [] g p h = miscounted_holds r
  filled_holds r (s ∷ ss) (o ∷ os) g p h =
      filled_holds (put r s o) ss os (λ x k. g x (inr k)) (λ x k. p x (inr k))
      (λ e. put_holds r s o (g s (inl refl)) (p o (inl refl)) (λ f. h (or_from (has_form s) (list_any has_form ss) f e)))

-- BLOCKS

abbrev names_of : List Mark → List (List ℕ)
names_of marks = flat_map (λ x. target_names x.fix.target) marks

-- a good statement, with some of these names
pub record IsRead (all : List (List ℕ)) (s : Statement) : Type 0 where
  pub good : IsGoodStatement s
  pub part : IsPart (statement_names s) all

code_sound : (bytes : List ℕ) (n : ℕ) (marks : List Mark) → length bytes ≡ n → 4 ≤ n → n % 4 ≡ 0 → length marks ≤ 2 → AreWithin Code 0 n marks → IsSound Code (record { bytes = bytes; marks = marks })
code_sound bytes n marks e some fours few h = record {
  marks_are = record { stand = subst (λ k. AreWithin Code 0 k marks) (sym e) h; few = omega (arith, e, some, few) };
  whole = λ wide. omega (arith, e, fours);
}

first_mark : (n : ℕ) (f : Fix) → IsGoodFix Code f → width_of f.kind ≤ n → IsWithin Code 0 n (record { at = 0; fix = f })
first_mark n f g w = record { fix = g; from = omega arith; inside = omega (arith, w); fours = λ wide. refl; head = λ u. refl }

upper_fit : (kind : RelKind) → is_upper_pcrel kind ≡ true → is_fit Code 4 kind ≡ true
upper_fit PcrelHi20 e = refl
upper_fit GotHi20 e = refl
upper_fit _ e = absurd cc

part_one : (ns ms all : List (List ℕ)) → ns ≡ ms → IsPart ms all → IsPart (ns ++ []) all
part_one ns ms all e p = subst (λ xs. IsPart xs all) (sym (append-nil ns ∙ e)) p

-- the second instruction's entry
abbrev low : Mark
low = record { at = 4; fix = record { kind = PcrelLo12I; target = Made; addend = pos 0 } }

low_there : IsWithin Code 0 8 low
low_there = record { fix = record { addend = zero_fits; code = refl; plain = λ e. refl; made = λ e. refl }; from = omega arith; inside = omega arith; fours = λ wide. refl; head = λ u. absurd (true≢false (sym u)) }

module _ (all : List (List ℕ)) where
  -- one entry for all bytes, or none
  one_good : (bytes : List ℕ) (n : ℕ) (t : Option Then) (o : Option Fix) → length bytes ≡ n → 4 ≤ n → n % 4 ≡ 0 → ((kind : RelKind) → is_first t kind ≡ true → is_fit Code n kind ≡ true) → IsRowFix t all o
      → IsRead all (Bytes Code (record { bytes = bytes; marks = marks_at 0 o }))
  one_good bytes n t None e some fours fits h = record { good = record { sound = code_sound bytes n [] e some fours (omega arith) ((λ m k. absurd k), tt); made = λ u. absurd (true≢false (sym u)) }; part = λ m p. none_named m }
  one_good bytes n t (Some f) e some fours fits h =
      let k : IsFit Code n f.kind = fit_of Code n f.kind (fits f.kind h.1.kind) in
      let m : Mark = record { at = 0; fix = f } in
      record {
        good = record {
          sound = code_sound bytes n (m ∷ []) e some fours (omega arith) (one_there Code 0 n m (first_mark n f (given_good (is_first t) Code n h.0 f k h.1) k.fits));
          made = λ u. absurd (true≢false (sym u ∙ or-false (is_made f.target) ∙ h.1.own));
        };
        part = part_one (target_names f.target) h.0 all h.1.named h.2;
      }

  -- an entry at each of two instructions
  two_good : (bytes : List ℕ) (f : Fix) → length bytes ≡ 8 → (ns : List (List ℕ)) × IsGiven is_upper_pcrel ns f × IsPart ns all → IsRead all (Bytes Code (record { bytes = bytes; marks = record { at = 0; fix = f } ∷ low ∷ [] }))
  two_good bytes f e h =
      let k : IsFit Code 4 f.kind = fit_of Code 4 f.kind (upper_fit f.kind h.1.kind) in
      let wide : width_of f.kind ≤ 4 = k.fits in
      let m : Mark = record { at = 0; fix = f } in
      record {
        good = record {
          sound = code_sound bytes 8 (m ∷ low ∷ []) e (omega arith) refl (omega arith)
              (both_there Code 0 8 m low (first_mark 8 f (given_good is_upper_pcrel Code 4 h.0 f k h.1) (omega (arith, wide))) low_there (inl (omega (arith, wide))));
          made = λ u. ap (λ b. b || any_upper (low ∷ [])) h.1.kind;
        };
        part = part_one (target_names f.target) h.0 all h.1.named h.2;
      }

  block_good : (op : Op) (t : Option Then) (f : Fields) → IsRowFix t all f.field.fix → IsRead all (Bytes Code (block op t f))
  block_good op None f h =
      subst (λ marks. IsRead all (Bytes Code (record (block op None f) { marks = marks }))) (sym (append-nil (marks_at 0 f.field.fix)))
      (one_good (block op None f).bytes 4 None f.field.fix refl (omega arith) refl (λ kind e. e) h)
  block_good op (Some t) f h = go t.made f.field.fix h
    where
      go : (made : Bool) (o : Option Fix) → IsRowFix (Some (record t { made = made })) all o
          → IsRead all (Bytes Code (record (block op (Some t) f) { marks = (marks_at 0 o ++ []) ++ (marks_at 4 (made_fix made) ++ []) }))
      go false None h = one_good (block op (Some t) f).bytes 8 (Some (record t { made = false })) None refl (omega arith) refl (λ kind e. e) h
      go false (Some x) h = one_good (block op (Some t) f).bytes 8 (Some (record t { made = false })) (Some x) refl (omega arith) refl (λ kind e. e) h
      go true None h = absurd (true≢false h)
      go true (Some x) h = two_good (block op (Some t) f).bytes x refl h

pub instruction_good : (row : Row) (os : List Operand) → IsGoodRow row → Yields (IsRead (all_names os)) (with_value (λ b. Bytes Code b) (instruction row os))
instruction_good row os e =
    let t : Option Then = row.2.then in
    let all : List (List ℕ) = all_names os in
    let p = and_parts (list_all (is_good_slot t) row.1) (not (makes t) || list_any has_form row.1) e in
    yields_value (λ b. IsRead all (Bytes Code b)) (IsRead all) (λ b. Bytes Code b) (instruction row os) (λ b r. r)
    (yields_value (λ (f : Fields). IsRowFix t all f.field.fix) (λ b. IsRead all (Bytes Code b)) (block row.0 t) (filled (Ok (unfilled row.2)) row.1 os)
    (block_good all row.0 t)
    (filled_holds t all (Ok (unfilled row.2)) row.1 os (all-In (is_good_slot t) row.1 p.0) (part_in os) (unmade (makes t) (list_any has_form row.1) p.1)))
  where
    unmade : (a b : Bool) → (not a || b) ≡ true → b ≡ false → a ≡ false
    unmade true b e f = absurd (true≢false (sym e ∙ f))
    unmade false b e f = refl

-- NUMBERS

abbrev fix_names : Option Fix → List (List ℕ)
fix_names None = []
fix_names (Some f) = target_names f.target

mark_names : (at : ℕ) (o : Option Fix) → names_of (marks_at at o) ≡ fix_names o
mark_names at None = refl
mark_names at (Some f) = append-nil (target_names f.target)

piece_names : (b : Block) (p : Piece) → names_of (appended b p).marks ≡ names_of b.marks ++ (fix_names p.fix ++ fix_names p.second)
piece_names b p = simp (flat_map-append, mark_names)

module _ (w : Width) where
  abbrev bytes : ℕ
  bytes = (layout_of w).bytes

  abbrev content : Content
  content = (layout_of w).content

  -- so many bytes, and the kinds of their entries
  record IsLayout : Type 0 where
    low : 1 ≤ bytes
    fours : InFours content bytes
    code : is_code content ≡ false
    address : option_map_or (is_fit content bytes) (layout_of w).address true ≡ true
    add : is_fit content bytes (layout_of w).add ≡ true
    sub : is_fit content bytes (layout_of w).sub ≡ true
    stacking : AreStacking (fix (layout_of w).add [] (pos 0)) (fix (layout_of w).sub [] (pos 0))

  -- a number with its names
  record IsDatum (o : Operand) (p : Piece) : Type 0 where
    good : IsGoodPiece content p
    names : fix_names p.fix ++ fix_names p.second ≡ operand_names o

  there : (l : IsLayout) (ns : List (List ℕ)) (n : ℕ) (f : Fix) → InFours content n → IsGiven (is_fit content bytes) ns f → IsWithin content n (n + bytes) (record { at = n; fix = f })
  there l ns n f fours g =
      let k : IsFit content bytes f.kind = fit_of content bytes f.kind g.kind in
      let wide : width_of f.kind ≤ bytes = k.fits in
      record { fix = given_good (is_fit content bytes) content bytes ns f k g; from = itself n; inside = omega (arith, wide); fours = fours; head = λ u. absurd (true≢false (sym (upper_code f.kind u) ∙ k.code ∙ l.code)) }

  entry_datum : (l : IsLayout) (e : Expression) → Yields (IsDatum (Value (Part Whole e))) (with_value (λ f. statements.filled w 0 (Some f) None) (entry (layout_of w).address e))
  entry_datum l e =
      yields_value (IsGiven (is_fit content bytes) (expression_names e)) (IsDatum (Value (Part Whole e))) (λ f. statements.filled w 0 (Some f) None) (entry (layout_of w).address e)
      (λ f g. record {
        good = record { low = l.low; in_fours = l.fours; stands = λ n fours. one_there content n (n + bytes) (record { at = n; fix = f }) (there l (expression_names e) n f fours g) };
        names = append-nil (target_names f.target) ∙ g.named;
      })
      (entry_given (is_fit content bytes) (layout_of w).address e l.address)

  difference_datum : (l : IsLayout) (a b : List ℕ) → IsDatum (Value (Part Whole (Difference a b))) (statements.filled w 0 (Some (fix (layout_of w).add a (pos 0))) (Some (fix (layout_of w).sub b (pos 0))))
  difference_datum l a b =
      let f : Fix = fix (layout_of w).add a (pos 0) in
      let s : Fix = fix (layout_of w).sub b (pos 0) in
      record {
        good = record {
          low = l.low;
          in_fours = l.fours;
          stands = λ n fours. both_there content n (n + bytes) (record { at = n; fix = f }) (record { at = n; fix = s })
              (there l (a ∷ []) n f fours (fix_given (is_fit content bytes) (layout_of w).add a (pos 0) l.add zero_fits (λ e. refl)))
              (there l (b ∷ []) n s fours (fix_given (is_fit content bytes) (layout_of w).sub b (pos 0) l.sub zero_fits (λ e. refl)))
              (inr (refl, record { first = l.stacking.first; second = l.stacking.second; same = l.stacking.same }));
        };
        names = refl;
      }

  datum_good : IsLayout → (o : Operand) → Yields (IsDatum o) (datum w o)
  datum_good l (Value (Number n)) =
      yields_value Any (IsDatum (Value (Number n))) (λ k. statements.filled w k None None) (stored w n)
      (λ k u. record { good = record { low = l.low; in_fours = l.fours; stands = λ n fours. ((λ m i. absurd i), tt) }; names = refl }) (yields_any (stored w n))
  datum_good l (Value (Part Whole (Difference a b))) = difference_datum l a b
  datum_good l (Value (Part Whole (Name n))) = entry_datum l (Name n)
  datum_good l (Value (Part Whole (Sum n by))) = entry_datum l (Sum n by)
  datum_good l (Value (Part m e)) = tt
  datum_good l (Memory i base) = tt

  -- numbers so far, and their names
  abbrev AreData : List Operand → Block → Type 0
  AreData done b = IsSound content b × (names_of b.marks ≡ all_names done)

  datum_more : (done : List Operand) (o : Operand) (b : Block) (p : Piece) → AreData done b → IsDatum o p → AreData (done ++ o ∷ []) (appended b p)
  datum_more done o b p h d = (
    piece_sound content b p h.0 d.good,
    piece_names b p ∙ ap (λ ns. ns ++ (fix_names p.fix ++ fix_names p.second)) h.1 ∙ ap (λ ns. all_names done ++ ns) (d.names ∙ sym (append-nil (operand_names o))) ∙ sym (flat_map-append operand_names done (o ∷ [])),
  )

  data_good : (os : List Operand) (b : Block) → is_code content ≡ false → AreData os b → IsRead (all_names os) (Bytes content b)
  data_good os b plain h = record { good = record { sound = h.0; made = λ e. absurd (unmade e) }; part = λ m p. subst (IsNamed m) (sym h.1) p }
    where
      unmade : list_any (λ m. is_made m.fix.target) b.marks ≡ true → ⊥
      unmade e =
          let r : (m : Mark) × In m b.marks × (is_made m.fix.target ≡ true) = any-Has (λ m. is_made m.fix.target) b.marks e in
          let g : IsGoodFix content r.0.fix = (h.0.marks_are.stand.0 r.0 r.1).fix in
          true≢false (sym (lo12_code r.0.fix.kind (g.made r.2)) ∙ g.code ∙ plain)

laid_out : (w : Width) → IsLayout w
laid_out Byte = record { low = omega arith; fours = λ wide. absurd (wide refl); code = refl; address = refl; add = refl; sub = refl; stacking = record { first = refl; second = refl; same = refl } }
laid_out Half = record { low = omega arith; fours = λ wide. absurd (wide refl); code = refl; address = refl; add = refl; sub = refl; stacking = record { first = refl; second = refl; same = refl } }
laid_out Word = record { low = omega arith; fours = λ wide. refl; code = refl; address = refl; add = refl; sub = refl; stacking = record { first = refl; second = refl; same = refl } }
laid_out Quad = record { low = omega arith; fours = λ wide. refl; code = refl; address = refl; add = refl; sub = refl; stacking = record { first = refl; second = refl; same = refl } }

pub numbers_good : (w : Width) (os : List Operand) → Yields (IsRead (all_names os)) (with_value (λ b. Bytes (layout_of w).content b) (numbers w os))
numbers_good w [] = tt
numbers_good w (o ∷ os) =
    yields_value (AreData w (o ∷ os)) (IsRead (all_names (o ∷ os))) (λ b. Bytes (layout_of w).content b) (numbers w (o ∷ os)) (λ b h. data_good w (o ∷ os) b (laid_out w).code h)
    (yields_gathered (AreData w) (IsDatum w) appended (datum w) (datum_more w) (o ∷ os) [] (Ok empty) (datum_good w (laid_out w)) (empty_sound (layout_of w).content, refl))

-- A line that is read: its statement is good, and its names take no more bytes than its text and one.
--     read_line text line
use Rattle.std.specs.Prelude.{◌≡◌, ◌≤◌, ◌+◌, ◌-◌, ◌^◌, ◌∷◌, ◌++◌, ◌==◌, if◌then◌else◌}
use Rattle.cell_asm.proofs.Facts.{ℕ, suc, Bool, true, false, List, [], map, take, drop, length, Result, Ok, Err, Some, None, refl, arith, Option, nat_le, position_or_len, prefix_len, before_first, length-take, where_true, AsmKind, Directive, ExpressionName as Name, Whole, ImmediatePart as Part, Operand}
use Rattle.cell_asm.proofs.Facts.{OperandValue as Value, Statement, StatementChoose as Choose, StatementZeros as Zeros, StatementAlign as Align, Line, with_value, is_name, label_names, statement_names, names_in, name, Row, directive, mnemonic, count, unit_of, unit, none, one, directed, worded}
use Rattle.cell_asm.proofs.Facts.{statement, is_inked, read_with, statement_in, spelled, operand_texts, first_word, after_word, has_label, label_name, labelled, line_of, code_of, operands, StatementBind}
use Rattle.cell_asm.specs.declared.kind.AsmKind.TheVariants as faults
use Rattle.cell_asm.specs.declared.mnemonic.Directive.TheVariants as directives
use Rattle.cell_asm.proofs.ListLemmas.{take_le, drop_le, le_trans, itself, le_of}
use Rattle.cell_asm.proofs.NamesFit.{Any, Yields, Finds, yields_value, yields_any, yields_ok, yields_weaker, IsNamed, none_named, one_named, join_named, more_named, IsPart, split_length, trimmed_le, all_names, NamesAll, operands_named, name_fits}
use Rattle.cell_asm.proofs.GoodBlocks.{IsUnit, IsGoodStatement}
use Rattle.cell_asm.proofs.StatementBlocks.{IsRead, IsGoodRow, mnemonic_good, instruction_good, numbers_good}

-- DIRECTIVES

unit_by : (k : ℕ) (b : Bool) → nat_le k 12 ≡ b → Yields IsUnit (if b then Ok (2 ^ k) else Err faults.Range)
unit_by k true e = (k, le_of k 12 e, refl)
unit_by k false e = tt

unit_good : (r : Result ℕ AsmKind) → Yields IsUnit (unit_of r)
unit_good (Ok k) = unit_by k (nat_le k 12) refl
unit_good (Err kind) = tt

none_read : (os : List Operand) (s : Statement) → IsRead (all_names os) s → Yields (IsRead (all_names os)) (none s os)
none_read [] s r = r
none_read (o ∷ os) s r = tt

one_read : {A : Type 0} (P : List Operand → A → Type 0) (read : Operand → Result A AsmKind) (make : A → Statement) (os : List Operand)
    → ((o : Operand) → Yields (P (o ∷ [])) (read o)) → ((a : A) → P os a → IsRead (all_names os) (make a)) → Yields (IsRead (all_names os)) (one read make os)
one_read P read make [] h made = tt
one_read P read make (o ∷ []) h made = yields_value (P (o ∷ [])) (IsRead (all_names (o ∷ []))) make (read o) made (h o)
one_read P read make (o ∷ p ∷ os) h made = tt

-- the name of one operand
one_name : (o : Operand) → Yields (λ n. IsPart (n ∷ []) (all_names (o ∷ []))) (name o)
one_name (Value (Part Whole (Name n))) = λ m h. h
one_name _ = tt

directed_read : (d : Directive) (os : List Operand) → Yields (IsRead (all_names os)) (directed d os)
directed_read (directives.Choose part) os = none_read os (Choose part) (record { good = tt; part = λ m h. none_named m })
directed_read (directives.Bind binding) os = one_read (λ all n. IsPart (n ∷ []) (all_names all)) name (λ n. StatementBind binding n) os one_name (λ n p. record { good = tt; part = p })
directed_read (directives.Numbers w) os = numbers_good w os
directed_read directives.Zeros os = one_read (λ all. Any) count (λ n. Zeros n) os (λ o. yields_any (count o)) (λ n u. record { good = tt; part = λ m h. none_named m })
directed_read directives.Align os = one_read (λ all. IsUnit) unit (λ n. Align n) os (λ o. unit_good (count o)) (λ n u. record { good = u; part = λ m h. none_named m })

-- STATEMENTS

worded_read : (d : Option Directive) (i : Option Row) (os : List Operand) → Finds IsGoodRow i → Yields (IsRead (all_names os)) (worded d i os)
worded_read (Some d) i os h = directed_read d os
worded_read None None os h = tt
worded_read None (Some i) os h = instruction_good i os h

-- a line that is read, whose names take so many bytes
pub record IsReadLine (m : ℕ) (line : Line) : Type 0 where
  pub good : IsGoodStatement line.statement
  pub names : IsNamed m (names_in line)

-- the same of a statement
abbrev IsReadIn : ℕ → Statement → Type 0
IsReadIn m s = IsReadLine m (record { label = None; statement = s })

with_operands : (m : ℕ) (word : List ℕ) (r : Result (List Operand) AsmKind) → Yields (NamesAll m) r → Yields (IsReadIn m) (read_with (statement word) r)
with_operands m word (Ok os) h =
    yields_weaker (IsRead (all_names os)) (IsReadIn m) (statement word os) (λ s r. record { good = r.good; names = r.part m h })
    (worded_read (directive word) (mnemonic word) os (mnemonic_good word))
with_operands m word (Err k) h = tt

statement_read : (text : List ℕ) (m : ℕ) → suc (length text) ≤ m → Yields (IsReadIn m) (statement_in text)
statement_read [] m l = record { good = tt; names = none_named m }
statement_read (b ∷ bs) m l =
    with_operands m (first_word (b ∷ bs)) (operands (map spelled (operand_texts (after_word (b ∷ bs)))))
    (operands_named (after_word (b ∷ bs)) m (omega (arith, trimmed_le (drop (prefix_len is_inked (b ∷ bs)) (b ∷ bs)), drop_le (prefix_len is_inked (b ∷ bs)) (b ∷ bs), l)))

-- LINES

-- a line of a text, behind a label that takes so many bytes
line_made : (k n : ℕ) (label : Option (List ℕ)) (text : List ℕ) → IsNamed k (label_names label) → k + suc (length text) ≤ n
    → Yields (IsReadLine n) (with_value (λ s. record { label = label; statement = s }) (statement_in text))
line_made k n label text h l =
    yields_value (IsReadIn (suc (length text))) (IsReadLine n) (λ s. record { label = label; statement = s }) (statement_in text)
    (λ s g. record {
      good = g.good;
      names = more_named (k + suc (length text)) n (label_names label ++ statement_names s) l
          (join_named k (suc (length text)) (label_names label) (statement_names s) h g.names);
    })
    (statement_read text (suc (length text)) (itself (suc (length text))))

-- a label takes as many bytes as its word
labelled_by : (k n : ℕ) (b : Bool) (name text : List ℕ) → is_name name ≡ b → length name ≤ k - 1 → k + suc (length text) ≤ n → Yields (IsReadLine n) (labelled (where_true b name) text)
labelled_by k n true name text h l t = line_made k n (Some name) text (one_named k name h (let some : 1 ≤ length name = (name_fits name h).some in omega (arith, l, some))) t
labelled_by k n false name text h l t = tt

-- a word and what follows it are within the text
words_le : (text : List ℕ) (n : ℕ) → length text ≤ n → length (first_word text) + suc (length (after_word text)) ≤ suc n
words_le text n l =
    omega (arith, split_length (prefix_len is_inked text) text, trimmed_le (drop (prefix_len is_inked text) text), l)

line_if : (code : List ℕ) (n : ℕ) (b : Bool) → length code ≤ n
    → Yields (IsReadLine (suc n)) (if b then labelled (label_name (first_word code)) (after_word code) else with_value (λ s. record { label = None; statement = s }) (statement_in code))
line_if code n true l =
    let word : List ℕ = first_word code in
    let name : List ℕ = take (length word - 1) word in
    labelled_by (length word) (suc n) (is_name name) name (after_word code) refl (omega (arith, length-take (length word - 1) word)) (words_le code n l)
line_if code n false l = line_made 0 (suc n) None code (none_named 0) (omega (arith, l))

-- a line that is read
pub read_line : (text : List ℕ) (line : Line) → line_of text ≡ Ok line → IsReadLine (suc (length text)) line
read_line text line e = yields_ok (IsReadLine (suc (length text))) (line_of text) line (line_if (code_of text) (length text) (has_label (code_of text)) (le_trans _ _ _ (trimmed_le (before_first (λ b. b == 35) text)) (take_le (position_or_len (λ b. b == 35) text) text))) e

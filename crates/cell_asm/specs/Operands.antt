-- How operands are spelled.
--     expression text       NAME, NAME+N, NAME-N or NAME-NAME
--     immediate text        a number, or %word(EXPR)
--     operand text          one of these, or I(reg)
use Rattle.std.specs.Prelude.{◌||◌, ◌==◌, ◌-◌, ◌∷◌, if◌then◌else◌}
use Rattle.cell_asm.specs.Types.{ℕ, Bool, List, [], take, drop, length, codes, Option, Some, None, option_map, option_and_then, neg_ℤ, position_or_len, before_last, after_last, where_true, or_else, Expression, ExpressionName as Name, Sum, Difference, Modifier, Whole, Hi, Lo, PcrelHi, PcrelLo}
use Rattle.cell_asm.specs.Types.{GotPcrelHi, Immediate, Number, ImmediatePart as Part, Operand, OperandValue as Value, OperandMemory as Memory}
use Rattle.cell_asm.specs.Mnemonics.{row_of}
use Rattle.cell_asm.specs.Names.{number, is_name, register, ends}

abbrev pub is_sign : ℕ → Bool
is_sign b = b == 43 || b == 45

-- behind a minus: a number or a name
abbrev pub less : List ℕ → List ℕ → Option Expression
less name text = or_else (option_map (λ n. Sum name (neg_ℤ n)) (number text)) (where_true (is_name text) (Difference name text))

-- what stands behind a name: nothing, a plus and a number, or a minus
abbrev pub with_rest : List ℕ → List ℕ → Option Expression
with_rest name [] = Some (Name name)
with_rest name (sign ∷ text) = if sign == 43 then option_map (λ n. Sum name n) (number text) else less name text

-- no sign stands in a name, so the first one ends it
abbrev pub expression : List ℕ → Option Expression
expression text =
    let end = position_or_len is_sign text in
    if is_name (take end text) then with_rest (take end text) (drop end text) else None

abbrev pub modifiers : List (List ℕ × Modifier)
modifiers =
    (codes "%hi", Hi) ∷ (codes "%lo", Lo) ∷ (codes "%pcrel_hi", PcrelHi) ∷ (codes "%pcrel_lo", PcrelLo)
    ∷ (codes "%got_pcrel_hi", GotPcrelHi) ∷ []

abbrev pub modifier : List ℕ → Option Modifier
modifier text = row_of modifiers text

-- The last parenthesis that opens: what stands before it, and what stands between it and the one that ends the text.
abbrev pub is_open : ℕ → Bool
is_open b = b == 40

abbrev pub front : List ℕ → List ℕ
front text = before_last is_open text

abbrev pub inside : List ℕ → List ℕ
inside text = let rest = after_last is_open text in take (length rest - 1) rest

-- two readings, of the front and of the inside, where a parenthesis ends the text
abbrev pub closed : {A B C : Type 0} → (List ℕ → Option A) → (List ℕ → Option B) → (A → B → C) → List ℕ → Option C
closed a b f text =
    if ends text (codes ")") then option_and_then (λ x. option_map (λ y. f x y) (b (inside text))) (a (front text)) else None

abbrev pub modified : List ℕ → Option Immediate
modified text = closed modifier expression (λ m e. Part m e) text

abbrev pub immediate : List ℕ → Option Immediate
immediate text = or_else (option_map (λ n. Number n) (number text)) (modified text)

abbrev pub memory : List ℕ → Option Operand
memory text = closed immediate register (λ i r. Memory i r) text

abbrev pub operand : List ℕ → Option Operand
operand text =
    or_else (option_map (λ i. Value i) (immediate text)) (or_else (option_map (λ e. Value (Part Whole e)) (expression text)) (memory text))

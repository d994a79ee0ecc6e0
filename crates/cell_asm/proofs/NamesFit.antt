-- What is read, where it is read.
--     Yields P r        P holds of the value, where there is one
--     Finds P o         the same of an option
use Rattle.std.specs.Prelude.{◌≡◌, ◌+◌, ◌/◌, ◌%◌, ◌<◌, ◌≤◌, ◌&&◌, ◌==◌, ◌∷◌, ◌++◌, ◌⊎◌, ◌-◌, if◌then◌else◌}
use Rattle.cell_asm.proofs.Facts.{Bool, true, false, Result, Ok, Err, Some, None, refl, subst, ℕ, zero, suc, not, List, [], length, codes, decimal, nat_le, nat_lt, inl, inr, arith, cond, map, take, drop, sym, ap, ◌∙◌, length-append, take-append-drop, append_assoc, append-nil, ltb-true, le-leb, ne_eqb}
use Rattle.cell_asm.proofs.Facts.{or_from, flat_map-append, nat_tests, list_any, list_all, position_or_len, prefix_len, suffix_len, after_last, slice_split, onto_first, Option, option_map, option_and_then, ok_or, neg_ℤ, flat_map, fold, where_true, or_else, is_global_name, IsPlain, joined, with_value}
use Rattle.cell_asm.proofs.Facts.{is_blank, trimmed, operand_texts, spelled, operands as operands_of, is_name, is_name_byte, begins_with_digit, ends, begins, number, key_name, is_sign, less, with_rest, expression, modifier, is_open, front, inside, modified, immediate, operand, AsmKind, Key}
use Rattle.cell_asm.proofs.Facts.{KeyNamed as Named, KeyMade as Made, Expression, ExpressionName as Name, Sum, Difference, Whole, Immediate, Number, ImmediatePart as Part, Operand, OperandValue as Value, OperandMemory as Memory, In, In-all, In-none, all-In, In-append, flat_map-In}
use Rattle.std.specs.Fmt.{digits, digits_onto, digit_glyph}
use Rattle.cell_object.specs.Bytes.{is_zero}
use Rattle.cell_object.specs.Symbols as object_names
use Rattle.cell_asm.specs.Names as names
use Rattle.cell_asm.specs.Operands as operands
use Rattle.cell_asm.specs.declared.kind.AsmKind.TheVariants as faults
use Rattle.cell_asm.proofs.ListLemmas.{ok_once, take_le, drop_le, total, total-append, total_le, total-map, le_trans}

abbrev pub Any : {A : Type 0} → A → Type 0
Any a = Unit {0}

-- P holds of the value, where there is one
abbrev pub Yields : {A : Type 0} → (A → Type 0) → Result A AsmKind → Type 0
Yields P (Ok a) = P a
Yields P (Err k) = Unit {0}

pub yields_value : {A B : Type 0} (P : A → Type 0) (Q : B → Type 0) (f : A → B) (r : Result A AsmKind) → ((a : A) → P a → Q (f a)) → Yields P r → Yields Q (with_value f r)
yields_value P Q f (Ok a) go h = go a h
yields_value P Q f (Err k) go h = tt

pub yields_joined : {A B : Type 0} (P : A → Type 0) (Q : B → Type 0) (R : A → Type 0) (f : A → B → A) (a : Result A AsmKind) (b : Result B AsmKind)
    → ((x : A) (y : B) → P x → Q y → R (f x y)) → Yields P a → Yields Q b → Yields R (joined f a b)
yields_joined P Q R f (Ok a) (Ok b) go h k = go a b h k
yields_joined P Q R f (Ok a) (Err l) go h k = tt
yields_joined P Q R f (Err j) (Ok b) go h k = tt
yields_joined P Q R f (Err j) (Err l) go h k = tt

-- what is gathered, of the values that were read
pub yields_gathered : {X A B : Type 0} (P : List X → A → Type 0) (Q : X → B → Type 0) (f : A → B → A) (g : X → Result B AsmKind)
    → ((done : List X) (x : X) (a : A) (b : B) → P done a → Q x b → P (done ++ x ∷ []) (f a b)) → (xs done : List X) (r : Result A AsmKind) → ((x : X) → Yields (Q x) (g x)) → Yields (P done) r
    → Yields (P (done ++ xs)) (fold (joined f) r (map g xs))
yields_gathered P Q f g more [] done r q h = subst (λ ys. Yields (P ys) r) (sym (append-nil done)) h
yields_gathered P Q f g more (x ∷ xs) done r q h =
    subst (λ ys. Yields (P ys) (fold (joined f) (joined f r (g x)) (map g xs))) (append_assoc done (x ∷ []) xs)
    (yields_gathered P Q f g more xs (done ++ x ∷ []) (joined f r (g x)) q (yields_joined (P done) (Q x) (P (done ++ x ∷ [])) f r (g x) (more done x) h (q x)))

pub yields_any : {A : Type 0} (r : Result A AsmKind) → Yields Any r
yields_any (Ok a) = tt
yields_any (Err k) = tt

pub yields_weaker : {A : Type 0} (P Q : A → Type 0) (r : Result A AsmKind) → ((a : A) → P a → Q a) → Yields P r → Yields Q r
yields_weaker P Q (Ok a) go h = go a h
yields_weaker P Q (Err k) go h = tt

pub yields_ok : {A : Type 0} (P : A → Type 0) (r : Result A AsmKind) (x : A) → Yields P r → r ≡ Ok x → P x
yields_ok P (Ok a) x h e = subst P (ok_once a x (Ok a) refl e) h
yields_ok P (Err k) x h e = absurd cc

abbrev pub Finds : {A : Type 0} → (A → Type 0) → Option A → Type 0
Finds P None = Unit {0}
Finds P (Some a) = P a

pub finds_any : {A : Type 0} (o : Option A) → Finds Any o
finds_any None = tt
finds_any (Some a) = tt

pub finds_map : {A B : Type 0} (P : A → Type 0) (Q : B → Type 0) (f : A → B) (o : Option A) → ((a : A) → P a → Q (f a)) → Finds P o → Finds Q (option_map f o)
finds_map P Q f None go h = tt
finds_map P Q f (Some a) go h = go a h

pub finds_else : {A : Type 0} (P : A → Type 0) (a b : Option A) → Finds P a → Finds P b → Finds P (or_else a b)
finds_else P None b h k = k
finds_else P (Some x) b h k = h

pub finds_where : {A : Type 0} (P : A → Type 0) (b : Bool) (x : A) → (b ≡ true → P x) → Finds P (where_true b x)
finds_where P true x h = h refl
finds_where P false x h = tt

pub finds_if : {A : Type 0} (P : A → Type 0) (b : Bool) (o p : Option A) → (b ≡ true → Finds P o) → Finds P p → Finds P (if b then o else p)
finds_if P true o p h k = h refl
finds_if P false o p h k = k

pub finds_both : {A B C : Type 0} (P : A → Type 0) (R : B → Type 0) (Q : C → Type 0) (f : A → B → C) (a : Option A) (b : Option B)
    → ((x : A) (y : B) → P x → R y → Q (f x y)) → Finds P a → Finds R b → Finds Q (option_and_then (λ x. option_map (λ y. f x y) b) a)
finds_both P R Q f None b go h k = tt
finds_both P R Q f (Some x) None go h k = tt
finds_both P R Q f (Some x) (Some y) go h k = go x y h k

-- The names of symbols can be written: no byte of them is zero, they print, and they aren't too long.
--     name_fits name         a name that a source may have
--     made_fits n            a name that is made for a label

-- NAMES OF A SOURCE

-- a byte of a name prints
prints : (b : ℕ) → is_name_byte b ≡ true → object_names.is_name_byte b ≡ true
prints b e = grind (arith, nat_tests)

printed : (b : ℕ) → object_names.is_name_byte b ≡ true → is_zero b ≡ false
printed b e = grind (arith, nat_tests)

first_three : (a b c d e f : Bool) → (a && b && c && d && e && f) ≡ true → (a ≡ true) × (b ≡ true) × (c ≡ true)
first_three true true true d e f h = (refl, refl, refl)
first_three true true false d e f h = absurd cc
first_three true false c d e f h = absurd cc
first_three false b c d e f h = absurd cc

-- a name that a symbol can have
pub record IsGoodName (name : List ℕ) : Type 0 where
  pub plain : IsPlain name
  pub some : 1 ≤ length name
  pub good : is_global_name name ≡ true

pub name_fits : (name : List ℕ) → is_name name ≡ true → IsGoodName name
name_fits name e =
    let p : (nat_lt 0 (length name) ≡ true) × (nat_le (length name) 1024 ≡ true) × (list_all is_name_byte name ≡ true) =
    first_three (nat_lt 0 (length name)) (nat_le (length name) 1024) (list_all is_name_byte name) (not (begins_with_digit name)) (not (begins name (codes ".La"))) (not (ends name (codes ":"))) e in
    let some : 0 < length name = ltb-true 0 (length name) p.0 in
    record {
      plain = In-none is_zero name (λ b k. printed b (prints b (all-In is_name_byte name p.2 b k)));
      some = omega (arith, some);
      good = rw (le-leb 1 (length name) (omega (arith, some)), p.1, In-all object_names.is_name_byte name (λ b k. prints b (all-In is_name_byte name p.2 b k))) refl;
    }

-- NAMES THAT ARE MADE

glyph_by : (upper small : Bool) (d : ℕ) → 36 ≤ (if small then 48 + d else (if upper then 55 + d else 87 + d))
glyph_by upper true d = omega arith
glyph_by true false d = omega arith
glyph_by false false d = omega arith

glyph_zero : (upper : Bool) (d : ℕ) → is_zero (digit_glyph upper d) ≡ false
glyph_zero upper d = ne_eqb (digit_glyph upper d) 0 (λ e. omega (arith, glyph_by upper (nat_lt d 10) d, e))

abbrev IsShort : ℕ → List ℕ → List ℕ → Type 0
IsShort k acc text = IsPlain text × (length text ≤ k + length acc)

digits_by : (b : Bool) (k glyph : ℕ) (acc more : List ℕ) → is_zero glyph ≡ false → IsPlain acc → (IsPlain (glyph ∷ acc) → IsShort k (glyph ∷ acc) more)
    → IsShort (suc k) acc (if b then glyph ∷ acc else more)
digits_by true k glyph acc more g h f = (or_from (is_zero glyph) (list_any is_zero acc) g h, (omega arith))
digits_by false k glyph acc more g h f =
    let r : IsShort k (glyph ∷ acc) more = f (or_from (is_zero glyph) (list_any is_zero acc) g h) in
    (r.0, (omega (arith, r.1)))

digits_short : (k base : ℕ) (upper : Bool) (n : ℕ) (acc : List ℕ) → IsPlain acc → IsShort k acc (digits_onto k base upper n acc)
digits_short zero base upper n acc h = (h, (omega arith))
digits_short (suc k) base upper n acc h =
    digits_by (n / base == 0) k (digit_glyph upper (n % base)) acc (digits_onto k base upper (n / base) (digit_glyph upper (n % base) ∷ acc)) (glyph_zero upper (n % base)) h
    (λ p. digits_short k base upper (n / base) (digit_glyph upper (n % base) ∷ acc) p)

decimal_short : (n : ℕ) → IsShort 64 [] (decimal n)
unfolding digits
decimal_short n = digits_short 64 10 false n [] refl

pub made_fits : (n : ℕ) → IsPlain (codes ".La" ++ decimal n)
made_fits n = (decimal_short n).0

pub made_short : (n : ℕ) → length (codes ".La" ++ decimal n) ≤ 67
made_short n = let d : length (decimal n) ≤ 64 + 0 = (decimal_short n).1 in omega (arith, d)

pub key_fits : (key : Key) → ((name : List ℕ) → key ≡ Named name → is_name name ≡ true) → IsPlain (key_name key)
key_fits (Named name) h = (name_fits name (h name refl)).plain
key_fits (Made n) h = made_fits n

-- The names of operands: they are names, and they take no more bytes than the text.
--     cost ns                          how many bytes the names take, each with one behind it
--     operands_named text m room       so it is of the operands of a text

-- SOME NAMES

abbrev pub AreNames : List (List ℕ) → Type 0
AreNames ns = (n : List ℕ) → In n ns → is_name n ≡ true

abbrev pub cost : List (List ℕ) → ℕ
cost ns = total (λ n. suc (length n)) ns

-- names, which take so many bytes at most
pub record IsNamed (m : ℕ) (ns : List (List ℕ)) : Type 0 where
  pub named : AreNames ns
  pub few : cost ns ≤ m

pub no_names : AreNames []
no_names n k = absurd k

pub more_names : (n : List ℕ) (ns : List (List ℕ)) → is_name n ≡ true → AreNames ns → AreNames (n ∷ ns)
more_names n ns h f m (inl e) = subst (λ v. is_name v ≡ true) (sym e) h
more_names n ns h f m (inr k) = f m k

pub join_names : (ms ns : List (List ℕ)) → AreNames ms → AreNames ns → AreNames (ms ++ ns)
join_names ms ns f g n k = go (In-append ms ns n k)
  where
    go : In n ms ⊎ In n ns → is_name n ≡ true
    go (inl i) = f n i
    go (inr i) = g n i

pub none_named : (m : ℕ) → IsNamed m []
none_named m = record { named = no_names; few = omega arith }

pub one_named : (m : ℕ) (n : List ℕ) → is_name n ≡ true → suc (length n) ≤ m → IsNamed m (n ∷ [])
one_named m n h l = record { named = more_names n [] h no_names; few = omega (arith, l) }

pub more_named : (m n : ℕ) (ns : List (List ℕ)) → m ≤ n → IsNamed m ns → IsNamed n ns
more_named m n ns l h = record { named = h.named; few = let f : cost ns ≤ m = h.few in omega (arith, l, f) }

pub cost-append : (ms ns : List (List ℕ)) → cost (ms ++ ns) ≡ cost ms + cost ns
cost-append ms ns = total-append (λ n. suc (length n)) ms ns

pub cost_flat : {X : Type 0} (g : X → List (List ℕ)) (xs : List X) → cost (flat_map g xs) ≡ total (λ x. cost (g x)) xs
cost_flat g [] = refl
cost_flat g (x ∷ xs) = cost-append (g x) (flat_map g xs) ∙ ap (λ n. cost (g x) + n) (cost_flat g xs)

pub join_named : (m n : ℕ) (ms ns : List (List ℕ)) → IsNamed m ms → IsNamed n ns → IsNamed (m + n) (ms ++ ns)
join_named m n ms ns h k = record {
  named = join_names ms ns h.named k.named;
  few = let f : cost ms ≤ m = h.few in let g : cost ns ≤ n = k.few in omega (arith, f, g, cost-append ms ns);
}

-- those are some of all: what is known of all is known of them
abbrev pub IsPart : List (List ℕ) → List (List ℕ) → Type 0
IsPart ns all = (m : ℕ) → IsNamed m all → IsNamed m ns

-- OPERANDS

abbrev pub expression_names : Expression → List (List ℕ)
expression_names (Name n) = n ∷ []
expression_names (Sum n by) = n ∷ []
expression_names (Difference m n) = m ∷ n ∷ []

abbrev pub immediate_names : Immediate → List (List ℕ)
immediate_names (Number n) = []
immediate_names (Part m e) = expression_names e

abbrev pub operand_names : Operand → List (List ℕ)
operand_names (Value i) = immediate_names i
operand_names (Memory i base) = immediate_names i

abbrev NamesExpression : ℕ → Expression → Type 0
NamesExpression m e = IsNamed m (expression_names e)

two_named : (m : ℕ) (a b : List ℕ) → is_name a ≡ true → is_name b ≡ true → length a + suc (length b) ≡ m → IsNamed (suc m) (a ∷ b ∷ [])
two_named m a b h k e = record { named = more_names a (b ∷ []) h (more_names b [] k no_names); few = omega (arith, e) }

less_named : (m : ℕ) (a t : List ℕ) → is_name a ≡ true → length a + suc (length t) ≡ m → Finds (NamesExpression (suc m)) (less a t)
less_named m a t h e =
    finds_else (NamesExpression (suc m)) (option_map (λ n. Sum a (neg_ℤ n)) (number t)) (where_true (is_name t) (Difference a t))
    (finds_map Any (NamesExpression (suc m)) (λ n. Sum a (neg_ℤ n)) (number t) (λ n u. one_named (suc m) a h (omega (arith, e))) (finds_any (number t)))
    (finds_where (NamesExpression (suc m)) (is_name t) (Difference a t) (λ k. two_named m a t h k e))

rest_named : (m : ℕ) (a r : List ℕ) → is_name a ≡ true → length a + length r ≡ m → Finds (NamesExpression (suc m)) (with_rest a r)
rest_named m a [] h e = one_named (suc m) a h (omega (arith, e))
rest_named m a (sign ∷ t) h e =
    finds_if (NamesExpression (suc m)) (sign == 43) (option_map (λ n. Sum a n) (number t)) (less a t)
    (λ b. finds_map Any (NamesExpression (suc m)) (λ n. Sum a n) (number t) (λ n u. one_named (suc m) a h (omega (arith, e))) (finds_any (number t)))
    (less_named m a t h e)

pub split_length : (n : ℕ) (text : List ℕ) → length (take n text) + length (drop n text) ≡ length text
split_length n text = sym (length-append (take n text) (drop n text)) ∙ ap length (take-append-drop n text)

-- the names that a text has room for
abbrev room : List ℕ → ℕ
room text = suc (length text)

expression_named : (text : List ℕ) → Finds (NamesExpression (room text)) (expression text)
expression_named text =
    let end = position_or_len is_sign text in
    finds_if (NamesExpression (room text)) (is_name (take end text)) (with_rest (take end text) (drop end text)) None
    (λ h. rest_named (length text) (take end text) (drop end text) h (split_length end text)) tt

suc_le : (a b : ℕ) → a ≤ b → suc a ≤ suc b
suc_le a b h = omega (arith, h)

front_room : (text : List ℕ) → room (front text) ≤ room text
front_room text = suc_le _ _ (take_le (length text - suffix_len (λ x. not (is_open x)) text - 1) text)

inside_room : (text : List ℕ) → room (inside text) ≤ room text
inside_room text =
    suc_le _ _ (le_trans (length (inside text)) (length (after_last is_open text)) (length text)
    (take_le (length (after_last is_open text) - 1) (after_last is_open text)) (drop_le (length text - suffix_len (λ x. not (is_open x)) text) text))

abbrev NamesImmediate : ℕ → Immediate → Type 0
NamesImmediate m i = IsNamed m (immediate_names i)

abbrev NamesOperand : ℕ → Operand → Type 0
NamesOperand m o = IsNamed m (operand_names o)

modified_named : (text : List ℕ) → Finds (NamesImmediate (room text)) (modified text)
modified_named text =
    finds_if (NamesImmediate (room text)) (ends text (codes ")")) (option_and_then (λ x. option_map (λ y. Part x y) (expression (inside text))) (modifier (front text))) None
    (λ b. finds_both Any (NamesExpression (room (inside text))) (NamesImmediate (room text)) (λ m e. Part m e) (modifier (front text)) (expression (inside text))
    (λ m e u h. more_named (room (inside text)) (room text) (expression_names e) (inside_room text) h) (finds_any (modifier (front text))) (expression_named (inside text)))
    tt

immediate_named : (text : List ℕ) → Finds (NamesImmediate (room text)) (immediate text)
immediate_named text =
    finds_else (NamesImmediate (room text)) (option_map (λ n. Number n) (number text)) (modified text)
    (finds_map Any (NamesImmediate (room text)) (λ n. Number n) (number text) (λ n u. none_named (room text)) (finds_any (number text)))
    (modified_named text)

memory_named : (text : List ℕ) → Finds (NamesOperand (room text)) (operands.memory text)
memory_named text =
    finds_if (NamesOperand (room text)) (ends text (codes ")")) (option_and_then (λ x. option_map (λ y. Memory x y) (names.register (inside text))) (immediate (front text))) None
    (λ b. finds_both (NamesImmediate (room (front text))) Any (NamesOperand (room text)) (λ i r. Memory i r) (immediate (front text)) (names.register (inside text))
    (λ i r h u. more_named (room (front text)) (room text) (immediate_names i) (front_room text) h) (immediate_named (front text)) (finds_any (names.register (inside text))))
    tt

operand_named : (text : List ℕ) → Finds (NamesOperand (room text)) (operand text)
operand_named text =
    finds_else (NamesOperand (room text)) (option_map (λ i. Value i) (immediate text)) (or_else (option_map (λ e. Value (Part Whole e)) (expression text)) (operands.memory text))
    (finds_map (NamesImmediate (room text)) (NamesOperand (room text)) (λ i. Value i) (immediate text) (λ i h. h) (immediate_named text))
    (finds_else (NamesOperand (room text)) (option_map (λ e. Value (Part Whole e)) (expression text)) (operands.memory text)
    (finds_map (NamesExpression (room text)) (NamesOperand (room text)) (λ e. Value (Part Whole e)) (expression text) (λ e h. h) (expression_named text))
    (memory_named text))

spelled_by : (m : ℕ) (o : Option Operand) → Finds (NamesOperand m) o → Yields (NamesOperand m) (ok_or o faults.Word)
spelled_by m None h = tt
spelled_by m (Some o) h = h

-- THE OPERANDS OF A STATEMENT

abbrev pub all_names : List Operand → List (List ℕ)
all_names os = flat_map operand_names os

pub part_in : (os : List Operand) (o : Operand) → In o os → IsPart (operand_names o) (all_names os)
part_in os o k m h = record { named = λ n i. h.named n (flat_map-In operand_names os o n k i); few = le_trans (cost (operand_names o)) (cost (all_names os)) m (go os k) h.few }
  where
    go : (ps : List Operand) → In o ps → cost (operand_names o) ≤ cost (all_names ps)
    go [] i = absurd i
    go (p ∷ ps) (inl e) = subst (λ x. cost (operand_names x) ≤ cost (all_names (p ∷ ps))) (sym e) (omega (arith, cost-append (operand_names p) (all_names ps)))
    go (p ∷ ps) (inr i) = omega (arith, go ps i, cost-append (operand_names p) (all_names ps))

abbrev pub NamesAll : ℕ → List Operand → Type 0
NamesAll m os = IsNamed m (all_names os)

named_more : (done : List (List ℕ)) (text : List ℕ) (os : List Operand) (o : Operand) → NamesAll (total room done) os → NamesOperand (room text) o → NamesAll (total room (done ++ text ∷ [])) (os ++ o ∷ [])
named_more done text os o h k =
    more_named (total room done + room text) (total room (done ++ text ∷ [])) (all_names (os ++ o ∷ [])) (omega (arith, total-append room done (text ∷ [])))
    (subst (IsNamed (total room done + room text)) (sym (flat_map-append operand_names os (o ∷ []) ∙ ap (λ ns. all_names os ++ ns) (append-nil (operand_names o))))
    (join_named (total room done) (room text) (all_names os) (operand_names o) h k))

texts_named : (texts : List (List ℕ)) → Yields (NamesAll (total room texts)) (operands_of (map spelled texts))
texts_named texts =
    yields_gathered (λ done. NamesAll (total room done)) (λ text. NamesOperand (room text)) (λ os o. os ++ o ∷ []) spelled named_more texts [] (Ok [])
    (λ text. spelled_by (room text) (operand text) (operand_named text)) (none_named 0)

onto_total : (b : ℕ) (parts : List (List ℕ)) (n : ℕ) → total room parts ≤ suc n → total room (onto_first b parts) ≤ suc (suc n)
onto_total b [] n h = omega arith
onto_total b (part ∷ parts) n h = omega (arith, h)

split_by : (c : Bool) (b : ℕ) (parts : List (List ℕ)) (n : ℕ) → total room parts ≤ suc n → total room (cond c ([] ∷ parts) (onto_first b parts)) ≤ suc (suc n)
split_by true b parts n h = omega (arith, h)
split_by false b parts n h = onto_total b parts n h

split_total : (p : ℕ → Bool) (text : List ℕ) → total room (slice_split p text) ≤ room text
split_total p [] = omega arith
split_total p (b ∷ bs) = split_by (p b) b (slice_split p bs) (length bs) (split_total p bs)

pub trimmed_le : (text : List ℕ) → length (trimmed text) ≤ length text
trimmed_le text =
    let rest : List ℕ = drop (prefix_len is_blank text) text in
    le_trans (length (trimmed text)) (length rest) (length text) (take_le (length rest - suffix_len is_blank rest) rest) (drop_le (prefix_len is_blank text) text)

operands_total : (text : List ℕ) → total room (operand_texts text) ≤ room text
operands_total [] = omega arith
operands_total (b ∷ bs) =
    let parts : List (List ℕ) = slice_split (λ c. c == 44) (b ∷ bs) in
    le_trans (total room (map trimmed parts)) (total room parts) (room (b ∷ bs))
    (subst (λ n. n ≤ total room parts) (sym (total-map room trimmed parts)) (total_le (λ t. room (trimmed t)) room parts (λ t k. suc_le _ _ (trimmed_le t)))) (split_total (λ c. c == 44) (b ∷ bs))

pub operands_named : (text : List ℕ) (m : ℕ) → suc (length text) ≤ m → Yields (NamesAll m) (operands_of (map spelled (operand_texts text)))
operands_named text m l =
    yields_weaker (NamesAll (total room (operand_texts text))) (NamesAll m) (operands_of (map spelled (operand_texts text)))
    (λ os h. more_named (total room (operand_texts text)) m (all_names os) (le_trans (total room (operand_texts text)) (room text) m (operands_total text) l) h)
    (texts_named (operand_texts text))

-- Canonical hex text and its number.
use Rattle.std.proofs.Common.{◌≡◌, ◌≢◌, ℕ, zero, suc, ◌+◌, ◌*◌, ◌/◌, ◌%◌, ◌<◌, ◌≤◌, ◌^◌, List, [], ◌∷◌, ◌++◌, ◌&&◌, Bool, true, false, not, eqb, length, length-append, ◌⊎◌, inl, inr, get_or, refl, sym, ap, ◌∙◌, arith, append_assoc, append-nil}
use Rattle.std.specs.declared.option.Option.{Option}
use Rattle.std.specs.Prelude.{Some, None, SomeIff, IfSome, nat_lt, cond}
use Rattle.std.specs.Char.{digit_value}
use Rattle.std.specs.Fmt.{digits, digits_onto, digit_glyph}
use Rattle.std.specs.Str.{IsAscii, IsUtf8}
use Rattle.std.proofs.lemmas.Str.{IsUtf8-from_ascii}
use Rattle.std.specs.Str.Parse.{digits_value, digits_value_after, AllDigits, IsNumeral}
use Rattle.std.proofs.lemmas.Bool.Decides.{nat_tests}
use Rattle.std.proofs.lemmas.Bool.{cases_lt}
use Rattle.std.proofs.lemmas.Fmt.{digits_is_IsNumeral}
use Rattle.std.proofs.lemmas.List.{get_or_append_left}
use Rattle.std.proofs.lemmas.List.Folds.{list_all-append}
use Rattle.cell_text.specs.Text.{is_filled}
use Rattle.cell_text.specs.Number.{hex, has_leading_zero, is_hex_digit, are_hex_digits, is_canonical_hex, hex_number_in}
use Rattle.cell_text.proofs.Decimal.{and_parts, and_whole, is_filled-some, filled, no_zero}

abbrev spell : ℕ → ℕ → List ℕ → List ℕ
spell k n acc = digits_onto k 16 false n acc

abbrev last_digit : ℕ → ℕ
last_digit n = digit_glyph false (n % 16)

spell_last : (k n : ℕ) (acc : List ℕ) → n < 16 → spell (suc k) n acc ≡ last_digit n ∷ acc
spell_last k n acc h =
    let one : eqb (n / 16) 0 ≡ true = grind (arith, nat_tests) in
    ap (λ t. cond t (last_digit n ∷ acc) (spell k (n / 16) (last_digit n ∷ acc))) one

spell_next : (k n : ℕ) (acc : List ℕ) → 16 ≤ n → spell (suc k) n acc ≡ spell k (n / 16) (last_digit n ∷ acc)
spell_next k n acc h =
    let more : eqb (n / 16) 0 ≡ false = grind (arith, nat_tests) in
    ap (λ t. cond t (last_digit n ∷ acc) (spell k (n / 16) (last_digit n ∷ acc))) more

abbrev Appends : ℕ → ℕ → List ℕ → Type 0
Appends k n acc = spell k n acc ≡ spell k n [] ++ acc

spell-append : (k n : ℕ) (acc : List ℕ) → Appends k n acc
spell-append zero n acc = refl
spell-append (suc k) n acc = elim (cases_lt n 16) [
  | inl l ↦ spell_last k n acc l ∙ ap (λ x. x ++ acc) (sym (spell_last k n [] l))
  | inr l ↦ spell_next k n acc l ∙ spell-append k (n / 16) (last_digit n ∷ acc) ∙ sym (append_assoc (spell k (n / 16) []) (last_digit n ∷ []) acc)
      ∙ ap (λ x. x ++ acc) (sym (spell_next k n [] l ∙ spell-append k (n / 16) (last_digit n ∷ [])))
]

-- the limit of digits does not matter where it is large enough
spell_enough : (j k n : ℕ) (acc : List ℕ) → n < 16 ^ suc j → n < 16 ^ suc k → spell (suc j) n acc ≡ spell (suc k) n acc
spell_enough zero k n acc p q = spell_last zero n acc (omega arith) ∙ sym (spell_last k n acc (omega arith))
spell_enough (suc j) zero n acc p q = spell_last (suc j) n acc (omega arith) ∙ sym (spell_last zero n acc (omega arith))
spell_enough (suc j) (suc k) n acc p q = elim (cases_lt n 16) [
  | inl l ↦ spell_last (suc j) n acc l ∙ sym (spell_last (suc k) n acc l)
  | inr l ↦ spell_next (suc j) n acc l ∙ spell_enough j k (n / 16) (last_digit n ∷ acc) (omega arith) (omega arith) ∙ sym (spell_next (suc k) n acc l)
]

spelled : (n : ℕ) → spell 64 n [] ≡ hex n
unfolding digits
spelled n = refl

hex_digit : (n : ℕ) → n < 16 → hex n ≡ digit_glyph false n ∷ []
hex_digit n h =
    let same : n % 16 ≡ n = omega arith in
    sym (spelled n) ∙ spell_last 63 n [] h ∙ ap (λ d. digit_glyph false d ∷ []) same

hex_step : (n : ℕ) → 16 ≤ n → n < 2 ^ 64 → hex n ≡ hex (n / 16) ++ last_digit n ∷ []
hex_step n h small =
    sym (spelled n) ∙ spell_next 63 n [] h ∙ spell_enough 62 63 (n / 16) (last_digit n ∷ []) (omega arith) (omega arith) ∙ spell-append 64 (n / 16) (last_digit n ∷ [])
    ∙ ap (λ x. x ++ last_digit n ∷ []) (spelled (n / 16))

glyph_is_hex : (d : ℕ) → d < 16 → is_hex_digit (digit_glyph false d) ≡ true
glyph_is_hex d h = grind (arith, nat_tests)

glyph_above_zero : (d : ℕ) → 0 < d → d < 16 → 48 < digit_glyph false d
glyph_above_zero d some h = grind (arith, nat_tests)

-- what is known of a written number
record IsWritten (n : ℕ) (ds : List ℕ) : Type 0 where
  some : 0 < length ds
  digits : are_hex_digits ds ≡ true
  first : 0 < n → 48 < get_or ds 0 0

written_digit : (n : ℕ) → n < 16 → IsWritten n (digit_glyph false n ∷ [])
written_digit n h = record {
  some = omega arith;
  digits = ap (λ t. t && true) (glyph_is_hex n h);
  first = λ p. glyph_above_zero n p h;
}

written_step : (n : ℕ) (ds : List ℕ) → 16 ≤ n → IsWritten (n / 16) ds → IsWritten n (ds ++ last_digit n ∷ [])
written_step n ds h w = record {
  some = omega (arith, length-append ds (last_digit n ∷ []), w.some);
  digits = list_all-append is_hex_digit ds (last_digit n ∷ [])
      ∙ ap (λ t. t && (is_hex_digit (last_digit n) && true)) w.digits
      ∙ ap (λ t. true && (t && true)) (glyph_is_hex (n % 16) (omega arith));
  first = λ p. omega (arith, get_or_append_left ds (last_digit n ∷ []) 0 0 w.some, w.first (omega arith));
}

written : (k n : ℕ) → n < 16 ^ suc k → n < 2 ^ 64 → IsWritten n (hex n)
written zero n p small = rw (hex_digit n (omega arith)) (written_digit n (omega arith))
written (suc k) n p small = elim (cases_lt n 16) [
  | inl l ↦ rw (hex_digit n l) (written_digit n l)
  | inr l ↦ rw (hex_step n l small) (written_step n (hex (n / 16)) l (written k (n / 16) (omega arith) (omega arith)))
]

pub value-hex : (n : ℕ) → n < 2 ^ 64 → digits_value 16 (hex n) ≡ n
value-hex n h = (digits_is_IsNumeral 16 false (omega arith) (omega arith) n (omega arith)).1

no_zero_where : (n : ℕ) → n < 2 ^ 64 → (0 < n) ⊎ (n ≤ 0) → has_leading_zero (hex n) ≡ false
no_zero_where n h (inr none) = ap has_leading_zero (hex_digit n (omega arith))
no_zero_where n h (inl some) = no_zero (hex n) ((written 15 n (omega arith) h).first some)

-- what `hex` writes is canonical
pub is_canonical_hex-hex : (n : ℕ) → n < 2 ^ 64 → is_canonical_hex (hex n) ≡ true
is_canonical_hex-hex n h =
    and_whole (is_filled (hex n)) (not (has_leading_zero (hex n))) (are_hex_digits (hex n))
    (is_filled-some (hex n) (written 15 n (omega arith) h).some)
    (ap not (no_zero_where n h (cases_lt 0 n)))
    (written 15 n (omega arith) h).digits

-- a hex digit is the glyph of its value
record IsGlyph (c : ℕ) : Type 0 where
  small : digit_value c < 16
  back : digit_glyph false (digit_value c) ≡ c
  zero : digit_value c ≡ 0 → c ≡ 48

is_glyph : (c : ℕ) → is_hex_digit c ≡ true → IsGlyph c
is_glyph c h = record {
  small = grind (arith, nat_tests);
  back = grind (arith, nat_tests);
  zero = λ e. grind (arith, nat_tests);
}

both : (a b : Bool) → (a && b) ≡ true → (a ≡ true) × (b ≡ true)
both true true e = (refl, refl)
both true false e = cc
both false b e = cc

pub all_hex : (ds : List ℕ) → are_hex_digits ds ≡ true → AllDigits 16 ds
all_hex [] e = tt
all_hex (c ∷ cs) e =
    let parts = both (is_hex_digit c) (are_hex_digits cs) e in
    ((is_glyph c parts.0).small, all_hex cs parts.1)

le_value_after : (n : ℕ) (ds : List ℕ) → n ≤ digits_value_after 16 n ds
le_value_after n [] = omega arith
le_value_after n (c ∷ cs) = omega (arith, le_value_after (n * 16 + digit_value c) cs)

hex-value_after : (n : ℕ) (ds : List ℕ) → 0 < n → are_hex_digits ds ≡ true → digits_value_after 16 n ds < 2 ^ 64 → hex (digits_value_after 16 n ds) ≡ hex n ++ ds
hex-value_after n [] some e small = sym (append-nil (hex n))
hex-value_after n (c ∷ cs) some e small =
    let m : ℕ = n * 16 + digit_value c in
    let parts = both (is_hex_digit c) (are_hex_digits cs) e in
    let g = is_glyph c parts.0 in
    let front : m / 16 ≡ n = omega (arith, g.small) in
    let value : m % 16 ≡ digit_value c = omega (arith, g.small) in
    let end : last_digit m ≡ c = ap (digit_glyph false) value ∙ g.back in
    hex-value_after m cs (omega arith) parts.1 small
    ∙ ap (λ x. x ++ cs) (hex_step m (omega arith) (omega (arith, le_value_after m cs)) ∙ (λ i. hex (front i) ++ end i ∷ []))
    ∙ append_assoc (hex n) (c ∷ []) cs

hex_of_value : (ds : List ℕ) → are_hex_digits ds ≡ true → 0 < length ds → not (has_leading_zero ds) ≡ true → digits_value 16 ds < 2 ^ 64 → hex (digits_value 16 ds) ≡ ds
hex_of_value [] e some lead small = absurd (omega arith)
hex_of_value (c ∷ []) e some lead small =
    let g = is_glyph c (both (is_hex_digit c) true e).0 in
    let same : 0 * 16 + digit_value c ≡ digit_value c = omega arith in
    hex_digit (0 * 16 + digit_value c) (omega (arith, g.small)) ∙ ap (λ d. digit_glyph false d ∷ []) same ∙ ap (λ x. x ∷ []) g.back
hex_of_value (c ∷ d ∷ cs) e some lead small =
    let parts = both (is_hex_digit c) (are_hex_digits (d ∷ cs)) e in
    let g = is_glyph c parts.0 in
    let no : c ≢ 48 = λ z. (let bad : not (eqb c 48) ≡ false = grind (arith, nat_tests) in cc) in
    let same : 0 * 16 + digit_value c ≡ digit_value c = omega arith in
    let positive : 0 < digit_value c = elim (cases_lt 0 (digit_value c)) [ inl p ↦ p | inr z ↦ absurd (no (g.zero (omega arith))) ] in
    hex-value_after (0 * 16 + digit_value c) (d ∷ cs) (omega arith) parts.1 small
    ∙ ap (λ x. x ++ d ∷ cs) (hex_digit (0 * 16 + digit_value c) (omega (arith, g.small)) ∙ ap (λ v. digit_glyph false v ∷ []) same ∙ ap (λ x. x ∷ []) g.back)

-- canonical text is what `hex` writes of its number
pub hex-value : (ds : List ℕ) → is_canonical_hex ds ≡ true → digits_value 16 ds < 2 ^ 64 → hex (digits_value 16 ds) ≡ ds
hex-value ds e small =
    let parts = and_parts (is_filled ds) (not (has_leading_zero ds)) (are_hex_digits ds) e in
    hex_of_value ds parts.2 (filled ds parts.0) parts.1 small

pub hex_is_numeral : (ds : List ℕ) → is_canonical_hex ds ≡ true → IsNumeral 16 ds
hex_is_numeral ds e =
    let parts = and_parts (is_filled ds) (not (has_leading_zero ds)) (are_hex_digits ds) e in
    (filled ds parts.0, all_hex ds parts.2)

pub no_hex : (ds : List ℕ) → is_canonical_hex ds ≡ false → hex_number_in ds ≡ None
no_hex ds e = ap (λ t. cond (t && nat_lt (digits_value 16 ds) (2 ^ 64)) (Some (digits_value 16 ds)) None) e

canonical : (ds : List ℕ) → is_canonical_hex ds ≡ true → hex_number_in ds ≡ cond (nat_lt (digits_value 16 ds) (2 ^ 64)) (Some (digits_value 16 ds)) None
canonical ds e = ap (λ t. cond (t && nat_lt (digits_value 16 ds) (2 ^ 64)) (Some (digits_value 16 ds)) None) e

less : (n m : ℕ) → n < m → nat_lt n m ≡ true
less n m h = grind (arith, nat_tests)

not_less : (n m : ℕ) → m ≤ n → nat_lt n m ≡ false
not_less n m h = grind (arith, nat_tests)

pub small_hex : (ds : List ℕ) → is_canonical_hex ds ≡ true → digits_value 16 ds < 2 ^ 64 → hex_number_in ds ≡ Some (digits_value 16 ds)
small_hex ds e h = canonical ds e ∙ ap (λ t. cond t (Some (digits_value 16 ds)) None) (less (digits_value 16 ds) (2 ^ 64) h)

pub large_hex : (ds : List ℕ) → is_canonical_hex ds ≡ true → 2 ^ 64 ≤ digits_value 16 ds → hex_number_in ds ≡ None
large_hex ds e h = canonical ds e ∙ ap (λ t. cond t (Some (digits_value 16 ds)) None) (not_less (digits_value 16 ds) (2 ^ 64) h)

pub spells : (o : Option ℕ) (ds : List ℕ) → is_canonical_hex ds ≡ true → SomeIff o (digits_value 16 ds < 2 ^ 64) (digits_value 16 ds) → IfSome o (λ n. ds ≡ hex n)
spells (Some n) ds e h = sym (hex-value ds e h.0) ∙ ap hex (sym h.1)
spells None ds e h = tt

pub spells_none : (o : Option ℕ) (ds : List ℕ) → SomeIff o (digits_value 16 ds < 2 ^ 64) (digits_value 16 ds) → o ≡ None → (n : ℕ) → n < 2 ^ 64 → ds ≡ hex n → ⊥
spells_none (Some m) ds h e n small same = cc
spells_none None ds h e n small same =
    let value : digits_value 16 ds ≡ n = ap (digits_value 16) same ∙ value-hex n small in
    h (omega (arith, value))

-- a digit of base 16 or less is below 123
below_letters : (c : ℕ) → digit_value c < 16 → c < 128
below_letters c h = grind (arith, nat_tests)

pub ascii_digits : (radix : ℕ) (ds : List ℕ) → radix ≤ 16 → AllDigits radix ds → IsAscii ds
ascii_digits radix [] low d i = omega arith
ascii_digits radix (c ∷ cs) low d zero = below_letters c (omega (arith, d.0))
ascii_digits radix (c ∷ cs) low d (suc i) = ascii_digits radix cs low d.1 i

pub digits_are_text : (radix : ℕ) (ds : List ℕ) → radix ≤ 16 → IsNumeral radix ds → IsUtf8 ds
digits_are_text radix ds low d = IsUtf8-from_ascii ds (ascii_digits radix ds low d.1)

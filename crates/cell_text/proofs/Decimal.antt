-- Canonical decimal text and its number.
use Rattle.std.proofs.Common.{◌≡◌, ℕ, ◌<◌, ◌≤◌, ◌^◌, List, [], ◌∷◌, ◌&&◌, Bool, true, false, not, length, ◌⊎◌, inl, inr, get_or, refl, sym, ap, ◌∙◌, arith}
use Rattle.std.specs.Prelude.{Some, None, nat_le, cond}
use Rattle.std.specs.Fmt.{decimal}
use Rattle.std.specs.Str.{all_ascii_digits}
use Rattle.std.specs.Str.Parse.{digits_value, IsNumeral}
use Rattle.std.specs.Char.{is_ascii_digit}
use Rattle.std.proofs.lemmas.Bool.Decides.{nat_tests}
use Rattle.std.proofs.lemmas.Bool.{cases_lt}
use Rattle.std.proofs.lemmas.Fmt.{decimal_is_IsNumeral, decimal_digit, first_decimal, decimal_nonempty, decimal-digits_value}
use Rattle.std.proofs.lemmas.Str.Parse.{IsNumeralModel, numerals_by_value, tells_all_ascii_digits}
use Rattle.cell_text.specs.Text.{is_filled}
use Rattle.cell_text.specs.Number.{has_leading_zero, are_digits, is_canonical, number_in}

pub own : IsNumeralModel (λ ds. all_ascii_digits ds ≡ true) (digits_value 10)
own = numerals_by_value _ tells_all_ascii_digits

pub are_digits-is : (ds : List ℕ) → are_digits ds ≡ all_ascii_digits ds
are_digits-is [] = refl
are_digits-is (b ∷ bs) = ap (λ t. is_ascii_digit b && t) (are_digits-is bs)

-- the parts of a test of three
pub and_parts : (a b c : Bool) → (a && b && c) ≡ true → (a ≡ true) × (b ≡ true) × (c ≡ true)
and_parts true true true e = (refl, refl, refl)
and_parts true true false e = cc
and_parts true false c e = cc
and_parts false b c e = cc

pub and_whole : (a b c : Bool) → a ≡ true → b ≡ true → c ≡ true → (a && b && c) ≡ true
and_whole true true true p q r = refl
and_whole true true false p q r = cc
and_whole true false c p q r = cc
and_whole false b c p q r = cc

pub is_filled-some : (ds : List ℕ) → 0 < length ds → is_filled ds ≡ true
is_filled-some [] h = absurd (omega arith)
is_filled-some (b ∷ bs) h = refl

pub filled : (ds : List ℕ) → is_filled ds ≡ true → 0 < length ds
filled [] h = cc
filled (b ∷ bs) h = omega arith

-- one digit, or a first that is above the zero's
pub no_zero : (ds : List ℕ) → 48 < get_or ds 0 0 → has_leading_zero ds ≡ false
no_zero [] h = refl
no_zero (b ∷ []) h = refl
no_zero (b ∷ c ∷ bs) h = grind (arith, nat_tests)

has_leading_zero-decimal : (n : ℕ) → n < 2 ^ 64 → (0 < n) ⊎ (n ≤ 0) → has_leading_zero (decimal n) ≡ false
has_leading_zero-decimal n h (inr none) = ap has_leading_zero (decimal_digit n (omega arith))
has_leading_zero-decimal n h (inl some) = no_zero (decimal n) (first_decimal n some h)

-- what `decimal` writes is canonical
pub is_canonical-decimal : (n : ℕ) → n < 2 ^ 64 → is_canonical (decimal n) ≡ true
is_canonical-decimal n h =
    and_whole (is_filled (decimal n)) (not (has_leading_zero (decimal n))) (are_digits (decimal n))
    (is_filled-some (decimal n) (decimal_nonempty n h))
    (ap not (has_leading_zero-decimal n h (cases_lt 0 n)))
    (are_digits-is (decimal n) ∙ own.from (decimal n) (decimal_is_IsNumeral n h).0.1)

pub digits_value-decimal : (n : ℕ) (ds : List ℕ) → n < 2 ^ 64 → ds ≡ decimal n → digits_value 10 ds ≡ n
digits_value-decimal n ds h e = ap (digits_value 10) e ∙ (decimal_is_IsNumeral n h).1

pub all_digits : (ds : List ℕ) → is_canonical ds ≡ true → all_ascii_digits ds ≡ true
all_digits ds e = sym (are_digits-is ds) ∙ (and_parts (is_filled ds) (not (has_leading_zero ds)) (are_digits ds) e).2

alone : (ds : List ℕ) → not (has_leading_zero ds) ≡ true → 0 < length ds → get_or ds 0 0 ≡ 48 → length ds ≡ 1
alone [] none h zero_first = absurd (omega arith)
alone (b ∷ []) none h zero_first = refl
alone (b ∷ c ∷ bs) none h zero_first = grind (arith, nat_tests)

-- canonical text is what `decimal` writes of its number
pub decimal-value : (ds : List ℕ) → is_canonical ds ≡ true → digits_value 10 ds < 2 ^ 64 → decimal (digits_value 10 ds) ≡ ds
decimal-value ds e small =
    let parts = and_parts (is_filled ds) (not (has_leading_zero ds)) (are_digits ds) e in
    let some : 0 < length ds = filled ds parts.0 in
    decimal-digits_value own ds (all_digits ds e) some (alone ds parts.1 some) small

pub decimal_is_numeral : (ds : List ℕ) → is_canonical ds ≡ true → IsNumeral 10 ds
decimal_is_numeral ds e =
    (filled ds (and_parts (is_filled ds) (not (has_leading_zero ds)) (are_digits ds) e).0, own.to ds (all_digits ds e))

pub no_number : (most : ℕ) (ds : List ℕ) → is_canonical ds ≡ false → number_in most ds ≡ None
no_number most ds e = ap (λ t. cond (t && nat_le (digits_value 10 ds) most) (Some (digits_value 10 ds)) None) e

canonical : (most : ℕ) (ds : List ℕ) → is_canonical ds ≡ true → number_in most ds ≡ cond (nat_le (digits_value 10 ds) most) (Some (digits_value 10 ds)) None
canonical most ds e = ap (λ t. cond (t && nat_le (digits_value 10 ds) most) (Some (digits_value 10 ds)) None) e

not_above : (n most : ℕ) → n ≤ most → nat_le n most ≡ true
not_above n most h = grind (arith, nat_tests)

above : (n most : ℕ) → most < n → nat_le n most ≡ false
above n most h = grind (arith, nat_tests)

pub small_number : (most n : ℕ) (ds : List ℕ) → is_canonical ds ≡ true → n ≡ digits_value 10 ds → n ≤ most → number_in most ds ≡ Some n
small_number most n ds e same h =
    canonical most ds e ∙ ap (λ t. cond t (Some (digits_value 10 ds)) None) (not_above (digits_value 10 ds) most (omega arith)) ∙ ap Some (sym same)

pub large_number : (most : ℕ) (ds : List ℕ) → is_canonical ds ≡ true → most < digits_value 10 ds → number_in most ds ≡ None
large_number most ds e h =
    canonical most ds e ∙ ap (λ t. cond t (Some (digits_value 10 ds)) None) (above (digits_value 10 ds) most h)

pub too_large : (most n : ℕ) → most < 2 ^ 64 → (n < 2 ^ 64) ⊎ (2 ^ 64 ≤ n) → (n < 2 ^ 64 → ⊥) → most < n
too_large most n h (inl small) no_small = absurd (no_small small)
too_large most n h (inr large) no_small = omega arith

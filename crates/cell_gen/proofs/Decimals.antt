-- The digits of a crate's number.
use Rattle.std.proofs.Common.{◌≡◌, ℕ, zero, suc, ◌<◌, ◌≤◌, ◌+◌, ◌/◌, ◌%◌, ◌^◌, cond, List, [], ◌∷◌, ◌++◌, Bool, true, false, not, ◌==◌, length, refl, arith}
use Rattle.std.specs.Prelude.{nat_le, nat_lt, ◌&&◌}
use Rattle.std.specs.Char.{is_ascii_digit}
use Rattle.std.specs.Fmt.{decimal, digits, digits_onto, digit_glyph}
use Rattle.std.specs.List.{list_all}
use Rattle.std.proofs.lemmas.Bool.{and_from, lt-ltb, le-leb}
use Rattle.std.proofs.lemmas.Fmt.{length-decimal-le, decimal_nonempty}
use Rattle.std.proofs.lemmas.List.Folds.{list_all-append}
use Rattle.cell_num.proofs.Elements.{all-In, In-all}
use Rattle.cell_text.specs.Number.{are_digits, has_leading_zero}
use Rattle.cell_text.specs.Text.{is_filled}
use Rattle.cell_text.proofs.Decimal.{and_parts, is_canonical-decimal}

-- one digit or more, and not many
pub record IsShortNumeral (d : List ℕ) : Type 0 where
  pub digits : list_all is_ascii_digit d ≡ true
  pub some : 0 < length d
  pub few : length d ≤ 10

pub short_decimal : (n : ℕ) → n < 2 ^ 32 → IsShortNumeral (decimal n)
short_decimal n h = record {
  digits = (and_parts (is_filled (decimal n)) (not (has_leading_zero (decimal n))) (are_digits (decimal n)) (is_canonical-decimal n (omega arith))).2;
  some = decimal_nonempty n (omega arith);
  few = length-decimal-le 10 n (omega arith) (omega arith) (omega arith);
}

-- what passes all digits passes all bytes of a numeral
pub digits_pass : (p : ℕ → Bool) (d : List ℕ) → ((b : ℕ) → is_ascii_digit b ≡ true → p b ≡ true) → IsShortNumeral d → list_all p d ≡ true
digits_pass p d passes h = In-all p d (λ b here. passes b (all-In is_ascii_digit d h.digits b here))

-- and all bytes of a text with the numeral in front of what passes
pub digits_before : (p : ℕ → Bool) (d rest : List ℕ) → ((b : ℕ) → is_ascii_digit b ≡ true → p b ≡ true) → IsShortNumeral d → list_all p rest ≡ true → list_all p (d ++ rest) ≡ true
digits_before p d rest passes h k = rw list_all-append (and_from (list_all p d) (list_all p rest) (digits_pass p d passes h) k)

-- the three parts of a test on a word: it is not empty, not too long, and of such bytes
pub is_word : (p : ℕ → Bool) (most : ℕ) (word : List ℕ) → 0 < length word → length word ≤ most → list_all p word ≡ true → (nat_lt 0 (length word) && nat_le (length word) most && list_all p word) ≡ true
is_word p most word some few all = rw (lt-ltb 0 (length word) some, le-leb (length word) most few, all) refl

one_more_digit : (last : Bool) (k : ℕ) (here later : List ℕ) → length here ≤ k → length later ≤ k → length (cond last here later) ≤ k
one_more_digit true k here later h l = h
one_more_digit false k here later h l = l

length-digits_onto : (k n : ℕ) (acc : List ℕ) → length (digits_onto k 10 false n acc) ≤ k + length acc
length-digits_onto zero n acc = omega arith
length-digits_onto (suc k) n acc =
    let more = digit_glyph false (n % 10) ∷ acc in
    one_more_digit (n / 10 == 0) (suc k + length acc) more (digits_onto k 10 false (n / 10) more) (omega arith) (omega (arith, length-digits_onto k (n / 10) more))

-- no number has more digits
pub length-decimal : (n : ℕ) → length (decimal n) ≤ 64
unfolding digits
length-decimal n = length-digits_onto 64 n []

-- How numbers are spelled.
--     hex n                 the number in lower-case hex
--     hex_byte b            two hex digits
--     number_in most text   the number of at most that size that the text spells in decimal
--     hex_number_in text    the number below 2 ^ 64 that the text spells in hex
use Rattle.std.specs.Prelude.{ℕ, ◌/◌, ◌%◌, ◌^◌, ◌||◌, nat_lt, nat_le, Bool, false, not, ◌&&◌, ◌==◌, List, [], ◌∷◌, Option, Some, None, if◌then◌else◌}
use Rattle.std.specs.List.{list_all}
use Rattle.std.specs.Char.{is_ascii_digit}
use Rattle.std.specs.Str.Parse.{digits_value}
use Rattle.std.specs.Fmt.{digits, digit_glyph}
use Rattle.cell_text.specs.Text.{is_filled}

-- in lower-case hex, without leading zeros
abbrev pub hex : ℕ → List ℕ
hex n = digits 16 false n

-- the two digits of a byte in lower-case hex
abbrev pub hex_byte : ℕ → List ℕ
hex_byte b = digit_glyph false (b / 16) ∷ digit_glyph false (b % 16) ∷ []

-- two bytes or more, of which the first is a zero
abbrev pub has_leading_zero : List ℕ → Bool
has_leading_zero [] = false
has_leading_zero (b ∷ []) = false
has_leading_zero (b ∷ c ∷ bs) = b == 48

abbrev pub are_digits : List ℕ → Bool
are_digits text = list_all is_ascii_digit text

-- decimal digits, one at least, without a leading zero
abbrev pub is_canonical : List ℕ → Bool
is_canonical text = is_filled text && not (has_leading_zero text) && are_digits text

-- the number that the text spells in decimal, where it is at most that
abbrev pub number_in : ℕ → List ℕ → Option ℕ
number_in most text = if is_canonical text && nat_le (digits_value 10 text) most then Some (digits_value 10 text) else None

-- 0 to 9, and a to f
abbrev pub is_hex_digit : ℕ → Bool
is_hex_digit b = is_ascii_digit b || nat_le 97 b && nat_le b 102

abbrev pub are_hex_digits : List ℕ → Bool
are_hex_digits text = list_all is_hex_digit text

-- lower-case hex digits, one at least, without a leading zero
abbrev pub is_canonical_hex : List ℕ → Bool
is_canonical_hex text = is_filled text && not (has_leading_zero text) && are_hex_digits text

-- the number that the text spells in hex, where it is below 2 ^ 64
abbrev pub hex_number_in : List ℕ → Option ℕ
hex_number_in text = if is_canonical_hex text && nat_lt (digits_value 16 text) (2 ^ 64) then Some (digits_value 16 text) else None

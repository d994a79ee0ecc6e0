-- Numbers as a source spells them.
--     number text       the number that the text spells: decimal, with a minus or without; or `0x` and lower-case hex
use Rattle.std.specs.Prelude.{◌+◌, ◌%◌, ◌^◌, ◌&&◌, ◌||◌, if◌then◌else◌, ◌==◌, ◌∷◌}
use Rattle.cell_asm.specs.Types.{ℕ, nat_lt, nat_le, nat_eq, Bool, not, List, drop, codes, Option, option_map, ℤ, pos, neg_ℤ, false, [], length, None, position, bytes_eq, list_all, starts_with, ends_with, where_true, or_else, is_filled}
use Rattle.std.specs.Char.{is_ascii_digit}
use Rattle.std.specs.Str.Parse.{digits_value}
use Rattle.cell_text.specs.Number.{is_canonical, has_leading_zero, number_in}

abbrev pub begins : List ℕ → List ℕ → Bool
begins text front = starts_with nat_eq text front

abbrev pub is_hex_digit : ℕ → Bool
is_hex_digit b = is_ascii_digit b || (nat_le 97 b && nat_le b 102)

-- digits, one at least, without a leading zero
abbrev pub decimal_number : List ℕ → Option ℕ
decimal_number text = where_true (is_canonical text) (digits_value 10 text)

abbrev pub hex_number : List ℕ → Option ℕ
hex_number text = where_true (is_filled text && not (has_leading_zero text) && list_all is_hex_digit text) (digits_value 16 text)

-- A number of 2^64 and more is out of every range, and all that counts of it is its remainder by 4.
abbrev pub held : ℕ → ℕ
held n = if nat_lt n (2 ^ 64) then n else 2 ^ 64 + n % 4

abbrev pub unsigned_number : List ℕ → Option ℕ
unsigned_number text = if begins text (codes "0x") then hex_number (drop 2 text) else decimal_number text

abbrev pub number : List ℕ → Option ℤ
number text =
    if begins text (codes "-") then option_map (λ n. neg_ℤ (pos (held n))) (decimal_number (drop 1 text))
    else option_map (λ n. pos (held n)) (unsigned_number text)

-- Names and registers.
--     is_name text          1 to 1024 bytes of A-Z, a-z, 0-9, _, ., $ and :, with what may stand first and last
--     register text         the number of the register that the text names

abbrev pub ends : List ℕ → List ℕ → Bool
ends text back = ends_with nat_eq text back

abbrev pub is_letter : ℕ → Bool
is_letter b = (nat_le 65 b && nat_le b 90) || (nat_le 97 b && nat_le b 122)

-- letters, digits, and _ . $ :
abbrev pub is_name_byte : ℕ → Bool
is_name_byte b = is_letter b || is_ascii_digit b || b == 95 || b == 46 || b == 36 || b == 58

abbrev pub begins_with_digit : List ℕ → Bool
begins_with_digit [] = false
begins_with_digit (b ∷ bs) = is_ascii_digit b

-- `.La` begins the names of the labels that `la` makes.
abbrev pub is_name : List ℕ → Bool
is_name text =
    nat_lt 0 (length text) && nat_le (length text) 1024 && list_all is_name_byte text
    && not (begins_with_digit text) && not (begins text (codes ".La")) && not (ends text (codes ":"))

-- the registers from 0 on. RISC-V psABI, "Integer Register Convention"
abbrev pub register_names : List (List ℕ)
register_names =
    codes "zero" ∷ codes "ra" ∷ codes "sp" ∷ codes "gp" ∷ codes "tp"
    ∷ codes "t0" ∷ codes "t1" ∷ codes "t2" ∷ codes "s0" ∷ codes "s1"
    ∷ codes "a0" ∷ codes "a1" ∷ codes "a2" ∷ codes "a3" ∷ codes "a4" ∷ codes "a5" ∷ codes "a6" ∷ codes "a7"
    ∷ codes "s2" ∷ codes "s3" ∷ codes "s4" ∷ codes "s5" ∷ codes "s6" ∷ codes "s7" ∷ codes "s8" ∷ codes "s9" ∷ codes "s10" ∷ codes "s11"
    ∷ codes "t3" ∷ codes "t4" ∷ codes "t5" ∷ codes "t6" ∷ []

-- x0 to x31
abbrev pub numbered_register : List ℕ → Option ℕ
numbered_register text = if begins text (codes "x") then number_in 31 (drop 1 text) else None

abbrev pub register : List ℕ → Option ℕ
register text = or_else (position (λ name. bytes_eq text name) register_names) (numbered_register text)
